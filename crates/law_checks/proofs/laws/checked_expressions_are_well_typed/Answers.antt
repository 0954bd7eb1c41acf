use Rattle.law_checks.proofs.Expressions.{expr-typed}
use Rattle.law_checks.proofs.laws.checked_expressions_are_well_typed.Goals as goal

pub returns : goal.returns
returns c = λ e scope x fits is. expr-typed e fits scope x is
