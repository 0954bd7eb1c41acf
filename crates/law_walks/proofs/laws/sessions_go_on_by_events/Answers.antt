use Rattle.law_walks.proofs.Goes.{session_goes}
use Rattle.law_walks.proofs.laws.sessions_go_on_by_events.Goals as goal

pub returns : goal.returns
returns c = session_goes
