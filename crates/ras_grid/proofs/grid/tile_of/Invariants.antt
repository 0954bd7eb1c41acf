use Rattle.std.proofs.Common.{◌≡◌, length, take}
use Rattle.ras_grid.specs.Grid.{tile_place}
use Rattle.ras_grid.proofs.grid.tile_of.Given as goal

abbrev pub invariant-loop-extent : goal.invariant-loop-extent
invariant-loop-extent l = l.place.items ≡ take (length l.yielded) (tile_place l.e.items l.p.items)
