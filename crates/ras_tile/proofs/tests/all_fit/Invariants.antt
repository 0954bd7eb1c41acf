use Rattle.std.proofs.Common.{ℕ, ◌<◌, get_or, []}
use Rattle.ras_cells.specs.Atoms.{AreInRange}
use Rattle.ras_cells.specs.Stored.{atoms_of}
use Rattle.ras_tile.proofs.tests.all_fit.Given as goal

abbrev pub invariant-loop-place : goal.invariant-loop-place
invariant-loop-place l = (k : ℕ) → k < l.place → AreInRange (atoms_of l.of) (get_or l.tile.cells k [])
