use Rattle.std.proofs.Common.{◌≡◌, ◌≤◌}
use Rattle.ras_fold.proofs.tests.summary_of.Given as goal

abbrev pub invariant-loop-number : goal.invariant-loop-number
invariant-loop-number l = (l.summary.op ≡ l.fn.op) × (l.summary.count ≤ l.number-index)
