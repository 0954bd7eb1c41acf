use Rattle.law_checks.proofs.Statements.{statement-typed}
use Rattle.law_checks.proofs.laws.checked_statements_are_well_typed.Goals as goal

pub returns : goal.returns
returns c = statement-typed
