use Rattle.std.proofs.Common.{◌≡◌, length, take}
use Rattle.ras_grid.specs.Grid.{place_box}
use Rattle.ras_grid.proofs.grid.places_of.Given as goal

abbrev pub invariant-loop-extent : goal.invariant-loop-extent
invariant-loop-extent l = l.places.items ≡ take (length l.yielded) (place_box l.extents l.axes)
