use Rattle.std.proofs.Common.{◌≡◌}
use Rattle.ras_turn.specs.Words.{pass_turn, pass_number}
use Rattle.ras_turn.proofs.tests.write_all.Given as goal

abbrev pub invariant-loop-word : goal.invariant-loop-word
invariant-loop-word g l = (pass_turn l.pass ≡ pass_turn l.initial.pass) × (pass_number l.pass ≡ pass_number l.initial.pass)
