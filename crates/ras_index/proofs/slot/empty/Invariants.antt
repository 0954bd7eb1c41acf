use Rattle.std.proofs.Common.{◌≡◌, [], take}
use Rattle.ras_index.specs.Slots.{places_of, entries_of}
use Rattle.ras_index.proofs.slot.empty.Given as goal

abbrev pub invariant-loop-slot : goal.invariant-loop-slot
invariant-loop-slot g l = record {
  places : places_of l.slots ≡ places_of l.initial.slots;
  none : entries_of (take l.slot-index l.slots) ≡ [];
}
