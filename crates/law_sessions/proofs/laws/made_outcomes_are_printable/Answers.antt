use Rattle.law_sessions.proofs.Printable.{printable}
use Rattle.law_sessions.proofs.laws.made_outcomes_are_printable.Goals as goal

pub returns : goal.returns
returns c = printable
