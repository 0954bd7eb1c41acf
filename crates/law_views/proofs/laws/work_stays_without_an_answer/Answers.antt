use Rattle.law_views.proofs.Events.{work_gave_up, work_refused}
use Rattle.law_views.proofs.laws.work_stays_without_an_answer.Goals as goal

pub returns-clause-refused : goal.returns-clause-refused
returns-clause-refused c = work_refused

pub returns-clause-gave_up : goal.returns-clause-gave_up
returns-clause-gave_up c = work_gave_up
