use Rattle.std.proofs.lemmas.Result.{err_from_is_err_and}
use Rattle.ras_check.proofs.Statements.{statement-stops, statement-checked}
use Rattle.ras_check.proofs.statement.check.Goals as goal

pub returns-in_err-form : goal.returns-in_err-form
returns-in_err-form c =
    let p = err_from_is_err_and c.from_residual-in_err-form.result c.from_residual-in_err-form.ensures.1 in
    let stops = rw c.in_ok-catalog.ensures at (statement-stops c.in_ok-catalog.catalog c.args.statement.now c.in_err-form.ensures) in
    rw (p.1, p.2) stops

pub returns : goal.returns
returns c = rw c.in_ok-catalog.ensures at (statement-checked c.in_ok-catalog.catalog c.args.statement.now c.in_ok-form.ensures)
