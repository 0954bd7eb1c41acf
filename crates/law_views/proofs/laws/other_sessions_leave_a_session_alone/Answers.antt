use Rattle.law_views.proofs.Quiet.{idle_stays, none_of_session}
use Rattle.law_views.proofs.laws.other_sessions_leave_a_session_alone.Goals as goal

pub returns-clause-events : goal.returns-clause-events
returns-clause-events c = none_of_session

pub returns-clause-idle : goal.returns-clause-idle
returns-clause-idle c = idle_stays
