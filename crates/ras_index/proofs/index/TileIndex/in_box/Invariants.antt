use Rattle.std.proofs.Common.{◌≡◌, map, take}
use Rattle.ras_index.specs.Index.{places_in}
use Rattle.ras_index.specs.Slots.{entries_of}
use Rattle.ras_index.proofs.index.TileIndex.in_box.Given as goal

abbrev pub invariant-loop-slot : goal.invariant-loop-slot
invariant-loop-slot g l = map (λ place. place.items) l.found.items ≡ places_in l.places (entries_of (take l.slot-index l.slot-items))
