-- A tile that is filled, point by point.
use Rattle.std.specs.Prelude.{◌≡◌, ℕ, map, take, length, All, IsTrue, Option}
use Rattle.ras_cells.specs.Atoms.{AreInRange}
use Rattle.ras_cells.specs.Stored.{atoms_of}
use Rattle.ras_domain.specs.Region.{points_of}
use Rattle.ras_store.specs.declared.write.Write.{Write}
use Rattle.ras_syntax.specs.declared.types.SetType.{SetType}
use Rattle.ras_tile.specs.Tile.{TileValue}
use Rattle.spec_views.specs.Holdings.{Holding}
use Rattle.ras_work.specs.declared.cells.NullRule.{NullRule}
use Rattle.ras_work.specs.Stores.{number_written}

-- the cells of its first points are those after a write, and fit the type
pub record IsFilledUpTo (of : SetType) (rule : NullRule) (write : Write) (before : Option Holding) (n : ℕ) (old new : TileValue) : Type 0 where
  pub region : new.region ≡ old.region
  pub width : new.width ≡ old.width
  pub writable : IsTrue new.writable
  pub long : length new.cells ≡ length old.cells
  pub cells : take n new.cells ≡ map (number_written of rule write before) (take n (points_of old.region))
  pub range : All (AreInRange (atoms_of of.cell)) (take n new.cells)
