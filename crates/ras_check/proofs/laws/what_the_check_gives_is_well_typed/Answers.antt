use Rattle.law_checks.proofs.Statements.{statement-typed}
use Rattle.ras_check.proofs.laws.what_the_check_gives_is_well_typed.Goals as goal

pub returns : goal.returns
returns c = λ catalog statement checked fits is. statement-typed catalog statement checked fits is.tells
