use Rattle.std.proofs.lemmas.Result.{err_from_is_err_and}
use Rattle.ras_check.proofs.Statements.{source-unknown, source-other, source-named}
use Rattle.ras_check.proofs.statement.updated_source.Goals as goal

pub returns-in_err-source : goal.returns-in_err-source
returns-in_err-source c =
    let p = err_from_is_err_and c.from_residual.result c.from_residual.ensures.1 in
    rw (p.1, p.2) (source-unknown c.args.catalog.now c.args.source.now c.args.set.now c.in_err-source.ensures)

pub returns-in_err-same_iterator : goal.returns-in_err-same_iterator
returns-in_err-same_iterator c =
    let p = err_from_is_err_and c.from_residual-in_err-same_iterator.result c.from_residual-in_err-same_iterator.ensures.1 in
    rw (p.1, p.2) (source-other c.args.catalog.now c.args.source.now c.args.set.now c.in_ok-source.ensures c.in_err-same_iterator.ensures)

pub returns : goal.returns
returns c = source-named c.args.catalog.now c.args.source.now c.args.set.now c.in_ok-source.ensures c.in_ok-same_iterator.ensures
