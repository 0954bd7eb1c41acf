use Rattle.std.proofs.Common.{refl}
use Rattle.std.proofs.lemmas.Result.{err_from_is_err_and}
use Rattle.spec_statements.specs.CheckStatement.{scope_of}
use Rattle.ras_check.proofs.Statements.{target-checked, target-stops}
use Rattle.ras_check.proofs.parts.target_over.Goals as goal

pub returns : goal.returns
returns c = rw c.in-Some.is (target-checked c.in-Some.axes (scope_of c.args.sources.now) (rw (c.as_slice.ensures, c.in_ok-scope.ensures) at c.in_ok-axes.ensures.checked))

pub returns-in_err-axes : goal.returns-in_err-axes
returns-in_err-axes c =
    let p = err_from_is_err_and c.from_residual-in_err-axes.result c.from_residual-in_err-axes.ensures.1 in
    rw (p.1, p.2, c.in-Some.is) (target-stops c.in-Some.axes (scope_of c.args.sources.now) (rw (c.as_slice.ensures, c.in_ok-scope.ensures) at c.in_err-axes.ensures.checked))

pub returns-in_default : goal.returns-in_default
returns-in_default c = rw c.in_default.is (record { tells = refl })
