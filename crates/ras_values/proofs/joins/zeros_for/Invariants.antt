use Rattle.std.proofs.Common.{◌≡◌, pos, replicate}
use Rattle.ras_values.proofs.joins.zeros_for.Given as goal

abbrev pub invariant-loop : goal.invariant-loop
invariant-loop l = l.numbers.items ≡ replicate l.counter (pos 0)
