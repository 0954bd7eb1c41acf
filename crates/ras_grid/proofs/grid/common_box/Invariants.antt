use Rattle.std.proofs.Common.{◌≡◌, take, All}
use Rattle.ras_domain.specs.Region.{IsOrdered}
use Rattle.ras_grid.specs.Grid.{tile_in}
use Rattle.ras_grid.proofs.grid.common_box.Given as goal

abbrev pub invariant-loop-i : goal.invariant-loop-i
invariant-loop-i l = (l.common.items ≡ take l.i (tile_in l.extents l.axes l.place)) × All IsOrdered l.common.items
