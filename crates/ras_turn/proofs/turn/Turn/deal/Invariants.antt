use Rattle.std.proofs.Common.{◌≡◌, Some, length, vec_len}
use Rattle.std.specs.Vec.{vec_capacity}
use Rattle.ras_turn.specs.Rule.{dealer}
use Rattle.ras_turn.specs.Words.{AreNew}
use Rattle.ras_turn.proofs.turn.Turn.deal.Given as goal

abbrev pub invariant-loop-number : goal.invariant-loop-number
invariant-loop-number g l = record {
  turn : l.seat.table_id ≡ l.self.table.shared.table_id;
  view : l.seat.me.0 ≡ dealer l.number l.seat.me.0.charter;
  charter : l.seat.me.0.charter ≡ l.initial.seat.me.0.charter;
  room : vec_capacity l.passes ≡ vec_capacity l.initial.passes;
  count : vec_len l.passes ≡ l.number;
  places : length l.passes.items ≡ l.number;
  each : (charter : g.row.S-Charter.Denot) → l.initial.seat.me.0.charter ≡ Some charter → AreNew l.self.table.shared.table_id charter l.passes.items;
}
