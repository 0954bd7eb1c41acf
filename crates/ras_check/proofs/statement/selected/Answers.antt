use Rattle.std.proofs.lemmas.Result.{err_from_is_err_and}
use Rattle.ras_check.proofs.Statements.{selected-no_result, selected-no_test, selected-all}
use Rattle.ras_check.proofs.statement.selected.Goals as goal

pub returns-in_err-result_body : goal.returns-in_err-result_body
returns-in_err-result_body c =
    let p = err_from_is_err_and c.from_residual-in_err-result_body.result c.from_residual-in_err-result_body.ensures.1 in
    rw (p.1, p.2) (selected-no_result c.args.from c.in_ok-body.body c.in_ok-cond.cond c.in_ok-body.was c.in_ok-cond.was (rw c.get.ensures at c.in_err-result_body.ensures))

pub returns-in_err-bool_condition : goal.returns-in_err-bool_condition
returns-in_err-bool_condition c =
    let p = err_from_is_err_and c.from_residual-in_err-bool_condition.result c.from_residual-in_err-bool_condition.ensures.1 in
    rw (p.1, p.2) (selected-no_test c.args.from c.in_ok-body.body c.in_ok-cond.cond c.in_ok-body.was c.in_ok-cond.was (rw c.get.ensures at c.in_ok-result_body.ensures)
    c.in_err-bool_condition.ensures)

pub returns : goal.returns
returns c =
    rw (c.into_inner.ensures, c.unboxed.ensures)
    (selected-all c.args.from c.in_ok-body.body c.in_ok-cond.cond c.in_ok-body.was c.in_ok-cond.was (rw c.get.ensures at c.in_ok-result_body.ensures) c.in_ok-bool_condition.ensures)
