use Rattle.law_walks.proofs.Goes.{session_starts}
use Rattle.law_walks.proofs.laws.sessions_start_with_nothing.Goals as goal

pub returns : goal.returns
returns c = session_starts
