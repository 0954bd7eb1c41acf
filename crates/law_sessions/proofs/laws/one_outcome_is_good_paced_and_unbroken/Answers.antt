use Rattle.law_sessions.proofs.Unique.{one-outcome}
use Rattle.law_sessions.proofs.laws.one_outcome_is_good_paced_and_unbroken.Goals as goal

pub returns : goal.returns
returns c = one-outcome
