use Rattle.law_walks.proofs.Due.{session_answers, session_asked}
use Rattle.law_walks.proofs.laws.answers_follow_the_last_phase.Goals as goal

pub returns-clause-asked : goal.returns-clause-asked
returns-clause-asked c = session_asked

pub returns-clause-answer : goal.returns-clause-answer
returns-clause-answer c = session_answers
