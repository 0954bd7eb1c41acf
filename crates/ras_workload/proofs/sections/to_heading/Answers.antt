use Rattle.std.proofs.Common.{arith}
use Rattle.ras_workload.proofs.Headed.{passes_line, passed, front_none, front_ended}
use Rattle.ras_workload.proofs.sections.to_heading.Goals as goal

pub loop-at-preserved : goal.loop-at-preserved
loop-at-preserved c =
    let i = c.loop-at.invariant in record {
      order = omega arith;
      within = c.line_end-at.ensures.within;
      few = omega arith;
      headed = passes_line c.args.text.now c.loop-at.line c.loop-at.at c.line_end-at.result c.line_end-at.ensures.after c.line_end-at.ensures.within
          c.line_end-at.ensures.line c.args.from c.args.first i.order c.if-text-at-ne35.true i.headed;
    }

pub returns-else-text-at-ne35-clause-headed : goal.returns-else-text-at-ne35-clause-headed
returns-else-text-at-ne35-clause-headed c =
    passed c.args.text.now c.loop-at.line c.loop-at.at c.args.from c.args.first
    (front_none c.args.text.now c.loop-at.line c.loop-at.at c.if-text-at-ne35.false c.loop-at-test.true) c.loop-at.invariant.headed

pub returns-after-loop-at-clause-headed : goal.returns-after-loop-at-clause-headed
returns-after-loop-at-clause-headed c =
    passed c.args.text.now c.loop-at.line c.loop-at.at c.args.from c.args.first
    (front_ended c.args.text.now c.loop-at.line c.loop-at.at c.loop-at-test.false) c.loop-at.invariant.headed
