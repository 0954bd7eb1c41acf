use Rattle.law_walks.proofs.Goes.{session_tells}
use Rattle.law_walks.proofs.laws.sessions_go_on_by_lines.Goals as goal

pub returns : goal.returns
returns c = session_tells
