use Rattle.std.proofs.lemmas.Result.{err_from_is_err_and}
use Rattle.ras_check.proofs.Statements.{inserted-no_body, inserted-all}
use Rattle.ras_check.proofs.statement.inserted.Goals as goal

pub returns-in_err-whole_body : goal.returns-in_err-whole_body
returns-in_err-whole_body c =
    let p = err_from_is_err_and c.from_residual-in_err-whole_body.result c.from_residual-in_err-whole_body.ensures.1 in
    rw (p.1, p.2) (inserted-no_body c.args.into c.args.of c.in_ok-body.body c.in_ok-body.was (rw c.get.ensures at c.in_err-whole_body.ensures))

pub returns : goal.returns
returns c = rw c.into_inner.ensures (inserted-all c.args.into c.args.of c.in_ok-body.body c.in_ok-body.was (rw c.get.ensures at c.in_ok-whole_body.ensures))
