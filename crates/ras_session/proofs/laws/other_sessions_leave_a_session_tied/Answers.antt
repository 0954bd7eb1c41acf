use Rattle.ras_session.proofs.Others.{tied_later}
use Rattle.ras_session.proofs.laws.other_sessions_leave_a_session_tied.Goals as goal

pub returns : goal.returns
returns c = tied_later
