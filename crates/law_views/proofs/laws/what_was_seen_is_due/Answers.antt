use Rattle.law_views.proofs.Sessions.{answer_may, list_due}
use Rattle.law_views.proofs.laws.what_was_seen_is_due.Goals as goal

pub returns-clause-list : goal.returns-clause-list
returns-clause-list c = list_due

pub returns-clause-answer : goal.returns-clause-answer
returns-clause-answer c = answer_may
