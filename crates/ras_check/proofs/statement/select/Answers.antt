use Rattle.std.proofs.lemmas.Result.{err_from_is_err_and}
use Rattle.ras_check.proofs.Statements.{select-unknown, select-double, select-checked}
use Rattle.ras_check.proofs.statement.select.Goals as goal

pub returns-in_err-from : goal.returns-in_err-from
returns-in_err-from c =
    let p = err_from_is_err_and c.from_residual.result c.from_residual.ensures.1 in
    rw (p.1, p.2) (select-unknown c.args.catalog.now 0 c.args.body.now c.args.sources.now c.args.cond.now c.in_err-from.ensures)

pub returns-in_err-once_each : goal.returns-in_err-once_each
returns-in_err-once_each c =
    let p = err_from_is_err_and c.from_residual-in_err-once_each.result c.from_residual-in_err-once_each.ensures.1 in
    rw (p.1, p.2) (select-double c.args.catalog.now 0 c.args.body.now c.args.sources.now c.args.cond.now c.in_ok-from.ensures c.in_err-once_each.ensures)

pub returns : goal.returns
returns c = select-checked c.args.catalog.now 0 c.args.body.now c.args.sources.now c.args.cond.now c.in_ok-from.ensures c.in_ok-once_each.ensures
    (rw c.as_slice.ensures at c.body_over-body.ensures) (rw c.as_slice-2.ensures at c.condition_over-cond.ensures) c.selected.ensures
