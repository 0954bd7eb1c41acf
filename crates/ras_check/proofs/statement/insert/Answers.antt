use Rattle.std.proofs.lemmas.Result.{err_from_is_err_and}
use Rattle.ras_check.proofs.Statements.{insert-unknown, insert-checked}
use Rattle.ras_check.proofs.statement.insert.Goals as goal

pub returns-in_err-of : goal.returns-in_err-of
returns-in_err-of c =
    let p = err_from_is_err_and c.from_residual.result c.from_residual.ensures.1 in
    rw (p.1, p.2) (insert-unknown c.args.catalog.now 0 c.args.into.now c.args.body.now c.in_err-of.ensures)

pub returns : goal.returns
returns c = insert-checked c.args.catalog.now 0 c.args.into.now c.args.body.now c.in_ok-of.ensures
    (rw (c.as_slice.ensures, c.new-none.ensures) at c.body_over-body.ensures) (rw c.in_ok-into.ensures at c.inserted.ensures)
