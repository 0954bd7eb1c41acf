use Rattle.std.proofs.lemmas.Result.{err_from_is_err_and}
use Rattle.ras_check.proofs.Statements.{deleted-no_test, deleted-all}
use Rattle.ras_check.proofs.statement.deleted.Goals as goal

pub returns-in_err-bool_condition : goal.returns-in_err-bool_condition
returns-in_err-bool_condition c =
    let p = err_from_is_err_and c.from_residual-in_err-bool_condition.result c.from_residual-in_err-bool_condition.ensures.1 in
    rw (p.1, p.2) (deleted-no_test c.args.source c.in_ok-cond.cond c.in_ok-cond.was c.in_err-bool_condition.ensures)

pub returns : goal.returns
returns c = rw c.unboxed.ensures (deleted-all c.args.source c.in_ok-cond.cond c.in_ok-cond.was c.in_ok-bool_condition.ensures)
