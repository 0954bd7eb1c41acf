use Rattle.std.proofs.Common.{arith}
use Rattle.ras_rows.specs.declared.plan.Plan.{Plan}
use Rattle.ras_shape.specs.Gives.{shape_of_form}
use Rattle.ras_syntax.specs.declared.limits.TheConstants.{MAX_REPLY_CELLS}
use Rattle.spec_statements.specs.Limits.{reply_cells}
use Rattle.ras_rows.proofs.Turns.{summed-above, summed-turn}
use Rattle.ras_rows.proofs.plans.is_reply_too_large.Goals as goal

pub overflow_add-cells : goal.overflow_add-cells
overflow_add-cells c = omega (arith, c.loop-plan.invariant.few, c.reply_cells-cells.ensures.few)

pub returns-then-cells-gt-MAX_REPLY_CELLS : goal.returns-then-cells-gt-MAX_REPLY_CELLS
returns-then-cells-gt-MAX_REPLY_CELLS c =
    summed-above (λ (plan : Plan). reply_cells (shape_of_form plan.shape)) c.args.plans.now c.loop-plan.plan-index c.plan-item.result c.reply_cells-cells.result c.loop-plan.cells MAX_REPLY_CELLS
    c.loop-plan-test.true c.plan-item.is c.loop-plan.invariant.so_far c.reply_cells-cells.ensures.cells c.if-cells-gt-MAX_REPLY_CELLS.true

pub loop-plan-preserved : goal.loop-plan-preserved
loop-plan-preserved c = record {
  so_far = summed-turn (λ (plan : Plan). reply_cells (shape_of_form plan.shape)) c.args.plans.now c.loop-plan.plan-index c.plan-item.result c.reply_cells-cells.result c.loop-plan.cells
      c.loop-plan-test.true c.plan-item.is c.loop-plan.invariant.so_far c.reply_cells-cells.ensures.cells;
  few = c.if-cells-gt-MAX_REPLY_CELLS.false;
}
