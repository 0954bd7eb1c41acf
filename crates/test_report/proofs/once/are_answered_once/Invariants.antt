use Rattle.std.proofs.Common.{◌≤◌, drop, length}
use Rattle.ras_report.specs.Once.{AreAnsweredOnce}
use Rattle.test_report.proofs.once.are_answered_once.Given as goal

abbrev pub invariant-loop-from : goal.invariant-loop-from
invariant-loop-from l = record {
  within : l.from ≤ length l.history;
  once : AreAnsweredOnce (drop l.from l.history);
}

abbrev pub decreases-loop-from : goal.decreases-loop-from
decreases-loop-from l = l.from
