use Rattle.std.proofs.lemmas.Result.{err_from_is_err_and}
use Rattle.ras_check.proofs.Statements.{create-known, create-no_type, create-checked}
use Rattle.ras_check.proofs.statement.create.Goals as goal

pub returns-in_err-name : goal.returns-in_err-name
returns-in_err-name c =
    let p = err_from_is_err_and c.from_residual.result c.from_residual.ensures.1 in
    rw (p.1, p.2) (create-known c.args.catalog.now 0 c.args.name.now c.args.of.now c.in_err-name.ensures)

pub returns-in_err-of : goal.returns-in_err-of
returns-in_err-of c =
    let p = err_from_is_err_and c.from_residual-in_err-of.result c.from_residual-in_err-of.ensures.1 in
    rw (p.1, p.2) (create-no_type c.args.catalog.now 0 c.args.name.now c.args.of.now c.in_ok-name.ensures c.in_err-of.ensures)

pub returns : goal.returns
returns c = create-checked c.args.catalog.now 0 c.args.name.now c.args.of.now c.in_ok-name.ensures c.in_ok-of.ensures
