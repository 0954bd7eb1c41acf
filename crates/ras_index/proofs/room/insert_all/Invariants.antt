use Rattle.std.proofs.Common.{◌≤◌, ◌+◌, reverse}
use Rattle.std.specs.Vec.{vec_len, vec_capacity}
use Rattle.ras_index.proofs.Ready.{IsSpread}
use Rattle.ras_index.proofs.room.insert_all.Given as goal

abbrev pub invariant-loop-place : goal.invariant-loop-place
invariant-loop-place g l = record {
  spread : IsSpread l.initial.slots.items l.initial.missing.items l.slots.items (reverse l.above.items) l.missing.items;
  room : vec_len l.slots + vec_len l.above + vec_len l.missing ≤ vec_capacity l.slots;
  room_above : vec_len l.slots + vec_len l.above + vec_len l.missing ≤ vec_capacity l.above;
}

abbrev pub decreases-loop-place : goal.decreases-loop-place
decreases-loop-place g l = vec_len l.missing
