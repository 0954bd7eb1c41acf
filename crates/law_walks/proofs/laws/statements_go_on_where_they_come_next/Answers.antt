use Rattle.law_walks.proofs.Due.{session_gives_up, session_goes_on, session_sees, session_setting}
use Rattle.law_walks.proofs.laws.statements_go_on_where_they_come_next.Goals as goal

pub returns-clause-going_on : goal.returns-clause-going_on
returns-clause-going_on c = session_goes_on

pub returns-clause-may_end : goal.returns-clause-may_end
returns-clause-may_end c = session_gives_up

pub returns-clause-seen : goal.returns-clause-seen
returns-clause-seen c = session_sees

pub returns-clause-setting : goal.returns-clause-setting
returns-clause-setting c = session_setting
