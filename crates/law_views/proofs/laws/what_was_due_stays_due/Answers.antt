use Rattle.law_views.proofs.Sessions.{answer_stays, due_stays}
use Rattle.law_views.proofs.laws.what_was_due_stays_due.Goals as goal

pub returns-clause-list : goal.returns-clause-list
returns-clause-list c = due_stays

pub returns-clause-answer : goal.returns-clause-answer
returns-clause-answer c = answer_stays
