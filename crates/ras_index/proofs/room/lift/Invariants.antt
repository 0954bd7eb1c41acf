use Rattle.std.proofs.Common.{◌≡◌, ◌≤◌, ◌+◌, ◌++◌, reverse}
use Rattle.std.specs.Vec.{vec_len, vec_capacity}
use Rattle.ras_index.proofs.room.lift.Given as goal

abbrev pub invariant-loop-slots : goal.invariant-loop-slots
invariant-loop-slots g l = record {
  within : l.end ≤ vec_len l.slots;
  order : l.slots.items ++ reverse l.above.items ≡ l.initial.slots.items ++ reverse l.initial.above.items;
  shorter : vec_len l.slots ≤ vec_len l.initial.slots;
  lengths : vec_len l.slots + vec_len l.above ≡ vec_len l.initial.slots + vec_len l.initial.above;
  capacity : vec_capacity l.slots ≡ vec_capacity l.initial.slots;
  capacity_above : vec_capacity l.above ≡ vec_capacity l.initial.above;
}

abbrev pub decreases-loop-slots : goal.decreases-loop-slots
decreases-loop-slots g l = vec_len l.slots
