-- What is stored of a write, and the tile that is made of it.
use Rattle.std.specs.Prelude.{◌≡◌, ℤ, List, map, Option, option_map, Result}
use Rattle.std.specs.declared.alloc.Global.{Global}
use Rattle.std.specs.declared.sync.Arc.{Arc}
use Rattle.ras_cells.specs.declared.cell.Cell.{Cell}
use Rattle.ras_cells.specs.declared.cell.CellFault.{CellFault}
use Rattle.ras_domain.specs.Region.{points_of}
use Rattle.ras_store.specs.declared.write.Write.{Write}
use Rattle.ras_store.specs.Databases.{holding_kept}
use Rattle.ras_store.specs.Kept.{kept_tile}
use Rattle.ras_syntax.specs.declared.types.SetType.{SetType}
use Rattle.ras_tile.specs.Tile.{IsTile, TileValue}
use Rattle.spec_expressions.specs.Shape.{Box}
use Rattle.spec_statements.specs.Effects.{insert_store, number_after, update_store}
use Rattle.spec_views.specs.Holdings.{Holding}
use Rattle.law_work.specs.ChangesFor.{array_held}
use Rattle.law_work.specs.Writes.{stores_of_write}
use Rattle.ras_work.specs.declared.cells.NullRule.{NullRule}
use Rattle.ras_work.specs.declared.cells.NullRule.TheVariants.{Left, Stored}

-- an insert stores nulls, an update leaves their cells
abbrev pub store_by : NullRule → SetType → Cell → Result (Option (List ℤ)) CellFault
store_by Stored of = insert_store of
store_by Left of = update_store of

-- what is held of a tile, none where there is none
abbrev pub tile_held_of : Option (Arc TileValue Global) → Option Holding
tile_held_of tile = option_map holding_kept (kept_tile tile)

-- the numbers at a point after a write, over the tile that was there
abbrev pub number_written : SetType → NullRule → Write → Option Holding → List ℤ → List ℤ
number_written of rule write before p = number_after of (array_held before) (stores_of_write (store_by rule of) write) p

-- the tile on a box that has these numbers
pub record IsWrittenTile (of : SetType) (rule : NullRule) (write : Write) (before : Option Holding) (box : Box) (tile : TileValue) : Type 0 where
  pub region : tile.region ≡ box
  pub is_tile : IsTile tile
  pub cells : tile.cells ≡ map (number_written of rule write before) (points_of box)
