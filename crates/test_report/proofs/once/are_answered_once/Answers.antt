use Rattle.std.proofs.Common.{◌≡◌, ◌-◌, arith}
use Rattle.test_report.proofs.Histories.{once-none, once-before}
use Rattle.test_report.proofs.once.are_answered_once.Goals as goal

pub loop-from-init : goal.loop-from-init
loop-from-init c = record { within = omega arith; once = once-none c.args.history.now }

pub loop-from-preserved : goal.loop-from-preserved
loop-from-preserved c = record {
  within = omega arith;
  once = once-before c.args.history.now (c.loop-from.from - 1) c.loop-from.from c.index-history-from.result (omega arith) (omega arith) c.index-history-from.is
      (c.is_told_by_any.ensures c.if-is_told_by_any.false) c.loop-from.invariant.once;
}

pub returns : goal.returns
returns c = let none : c.loop-from.from ≡ 0 = omega arith in let once = c.loop-from.invariant.once in λ _. rw none at once
