use Rattle.law_views.proofs.Events.{work_begun}
use Rattle.law_views.proofs.laws.work_begins_with_a_transaction.Goals as goal

pub returns : goal.returns
returns c = work_begun
