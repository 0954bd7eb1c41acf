use Rattle.std.proofs.lemmas.Result.{err_from_is_err_and}
use Rattle.ras_check.proofs.Statements.{updated-no_axes, updated-no_body, updated-no_test, updated-all}
use Rattle.ras_check.proofs.statement.updated.Goals as goal

pub returns-in_err-written_axes : goal.returns-in_err-written_axes
returns-in_err-written_axes c =
    let p = err_from_is_err_and c.from_residual-in_err-written_axes.result c.from_residual-in_err-written_axes.ensures.1 in
    rw (p.1, p.2) (updated-no_axes c.args.source c.args.target c.in_ok-axes.axes c.in_ok-body.body c.in_ok-cond.cond c.in_ok-axes.was c.in_ok-body.was c.in_ok-cond.was c.in_err-written_axes.ensures)

pub returns-in_err-written_body : goal.returns-in_err-written_body
returns-in_err-written_body c =
    let p = err_from_is_err_and c.from_residual-in_err-written_body.result c.from_residual-in_err-written_body.ensures.1 in
    rw (p.1, p.2) (updated-no_body c.args.source c.args.target c.in_ok-axes.axes c.in_ok-body.body c.in_ok-cond.cond c.in_ok-axes.was c.in_ok-body.was c.in_ok-cond.was
    c.in_ok-written_axes.ensures (rw c.get.ensures at c.in_err-written_body.ensures))

pub returns-in_err-bool_condition : goal.returns-in_err-bool_condition
returns-in_err-bool_condition c =
    let p = err_from_is_err_and c.from_residual-in_err-bool_condition.result c.from_residual-in_err-bool_condition.ensures.1 in
    rw (p.1, p.2) (updated-no_test c.args.source c.args.target c.in_ok-axes.axes c.in_ok-body.body c.in_ok-cond.cond c.in_ok-axes.was c.in_ok-body.was c.in_ok-cond.was
    c.in_ok-written_axes.ensures (rw c.get.ensures at c.in_ok-written_body.ensures) c.in_err-bool_condition.ensures)

pub returns : goal.returns
returns c = rw (c.into_inner.ensures, c.unboxed.ensures)
    (updated-all c.args.source c.args.target c.in_ok-axes.axes c.in_ok-body.body c.in_ok-cond.cond c.in_ok-axes.was c.in_ok-body.was c.in_ok-cond.was
    c.in_ok-written_axes.ensures (rw c.get.ensures at c.in_ok-written_body.ensures) c.in_ok-bool_condition.ensures)
