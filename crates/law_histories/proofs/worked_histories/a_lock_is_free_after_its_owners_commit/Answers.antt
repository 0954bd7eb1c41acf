use Rattle.law_histories.proofs.WorkedEvents.{legal_grant}
use Rattle.law_histories.proofs.worked_histories.a_lock_is_free_after_its_owners_commit.Goals as goal

pub returns : goal.returns
returns c = legal_grant
