use Rattle.std.proofs.lemmas.Result.{err_from_is_err_and}
use Rattle.ras_check.proofs.Statements.{drop-unknown, drop-checked}
use Rattle.ras_check.proofs.statement.dropped.Goals as goal

pub returns-in_err-has_collection : goal.returns-in_err-has_collection
returns-in_err-has_collection c =
    let p = err_from_is_err_and c.from_residual.result c.from_residual.ensures.1 in
    rw (p.1, p.2) (drop-unknown c.args.catalog.now 0 c.args.name.now c.in_err-has_collection.ensures)

pub returns : goal.returns
returns c = rw c.in_ok-name.ensures (drop-checked c.args.catalog.now 0 c.args.name.now c.in_ok-has_collection.ensures)
