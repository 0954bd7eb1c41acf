use Rattle.law_walks.proofs.Stays.{session_stays}
use Rattle.law_walks.proofs.laws.other_sessions_leave_a_walk_alone.Goals as goal

pub returns : goal.returns
returns c = session_stays
