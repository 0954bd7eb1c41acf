use Rattle.law_histories.proofs.WorkedEvents.{legal_refusal}
use Rattle.law_histories.proofs.worked_histories.a_refusal_is_legal.Goals as goal

pub returns : goal.returns
returns c = legal_refusal
