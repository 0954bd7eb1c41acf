use Rattle.law_histories.proofs.WorkedEvents.{lives_in_1}
use Rattle.law_histories.proofs.worked_histories.wrong_begins_and_commits_are_not_legal.Goals as goal

pub returns-clause-a_second_one_of_a_session : goal.returns-clause-a_second_one_of_a_session
returns-clause-a_second_one_of_a_session c = lives_in_1
