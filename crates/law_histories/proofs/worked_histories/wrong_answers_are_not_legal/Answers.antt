use Rattle.law_histories.proofs.WorkedEvents.{not_told, not_granted}
use Rattle.law_histories.proofs.worked_histories.wrong_answers_are_not_legal.Goals as goal

pub returns-clause-another_answer : goal.returns-clause-another_answer
returns-clause-another_answer c = not_told

pub returns-clause-before_its_locks : goal.returns-clause-before_its_locks
returns-clause-before_its_locks c = not_granted
