use Rattle.law_sessions.proofs.Sessions.{quiet-leaves}
use Rattle.law_sessions.proofs.laws.other_sessions_leave_the_events.Goals as goal

pub returns : goal.returns
returns c = quiet-leaves
