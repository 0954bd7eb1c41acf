use Rattle.std.proofs.Common.{◌≡◌, ◌++◌}
use Rattle.ras_values.proofs.operations.joined.Given as goal

abbrev pub invariant-loop-number : goal.invariant-loop-number
invariant-loop-number l = l.both.items ++ l.number-iterator.rest.now ≡ l.first.items ++ l.second.items
