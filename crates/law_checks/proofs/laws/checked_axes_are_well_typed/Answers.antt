use Rattle.law_checks.proofs.Expressions.{axes-typed}
use Rattle.law_checks.proofs.laws.checked_axes_are_well_typed.Goals as goal

pub returns : goal.returns
returns c = λ axes scope xs fit is. axes-typed axes fit scope xs is
