use Rattle.std.proofs.Common.{◌≡◌, ◌++◌, map, vec_len}
use Rattle.std.specs.List.{All}
use Rattle.ras_turn.specs.Rule.{collector}
use Rattle.ras_turn.specs.Words.{known_of, pass_turn}
use Rattle.ras_turn.proofs.turn.Turn.gather.Given as goal

abbrev pub invariant-loop-pass : goal.invariant-loop-pass
invariant-loop-pass g l = record {
  turn : l.seat.table_id ≡ l.self.table.shared.table_id;
  passes : All (λ p. pass_turn p ≡ l.self.table.shared.table_id) l.passes.items;
  view : l.seat.me.0 ≡ collector l.seat.me.0.joined;
  taken : map known_of l.initial.passes.items ≡ map known_of l.passes.items ++ l.seat.me.0.joined;
}

abbrev pub decreases-loop-pass : goal.decreases-loop-pass
decreases-loop-pass g l = vec_len l.passes
