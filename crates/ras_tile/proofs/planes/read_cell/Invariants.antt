use Rattle.std.proofs.Common.{◌≡◌, take}
use Rattle.ras_tile.specs.Planes.{cell_of_planes}
use Rattle.ras_tile.proofs.planes.read_cell.Given as goal

abbrev pub invariant-loop-plane : goal.invariant-loop-plane
invariant-loop-plane l = l.numbers.items ≡ take l.plane-index (cell_of_planes l.planes l.place)
