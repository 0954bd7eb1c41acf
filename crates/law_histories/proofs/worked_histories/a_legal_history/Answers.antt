use Rattle.law_histories.proofs.WorkedEvents.{legal_committed_once}
use Rattle.law_histories.proofs.worked_histories.a_legal_history.Goals as goal

pub returns : goal.returns
returns c = legal_committed_once
