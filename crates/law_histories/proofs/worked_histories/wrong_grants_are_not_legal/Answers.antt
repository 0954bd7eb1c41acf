use Rattle.law_histories.proofs.WorkedEvents.{held_by_1}
use Rattle.law_histories.proofs.worked_histories.wrong_grants_are_not_legal.Goals as goal

pub returns-clause-granted_what_another_holds : goal.returns-clause-granted_what_another_holds
returns-clause-granted_what_another_holds c = held_by_1
