use Rattle.std.proofs.lemmas.Result.{err_from_is_err_and}
use Rattle.ras_check.proofs.Statements.{delete-unknown, delete-checked}
use Rattle.ras_check.proofs.statement.delete.Goals as goal

pub returns-in_err-source : goal.returns-in_err-source
returns-in_err-source c =
    let p = err_from_is_err_and c.from_residual.result c.from_residual.ensures.1 in
    rw (p.1, p.2) (delete-unknown c.args.catalog.now 0 c.args.source.now c.args.cond.now c.in_err-source.ensures)

pub returns : goal.returns
returns c = delete-checked c.args.catalog.now 0 c.args.source.now c.args.cond.now c.in_ok-source.ensures (rw c.from_ref.ensures.value at c.condition_over-cond.ensures) c.deleted.ensures
