use Rattle.ras_check.proofs.Statements.{update-over}
use Rattle.ras_check.proofs.statement.update.Goals as goal

pub returns : goal.returns
returns c = update-over c.args.axes.now c.args.target c.args.body.now c.args.cond.now c.in_ok-source.source c.in_ok-source.was
    (rw c.from_ref-from.ensures.value at c.target_over-axes.ensures) (rw c.from_ref-from.ensures.value at c.body_over-body.ensures)
    (rw c.from_ref-from.ensures.value at c.condition_over-cond.ensures) c.updated.ensures
