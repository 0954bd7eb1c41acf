use Rattle.law_views.proofs.Events.{work_granted}
use Rattle.law_views.proofs.laws.work_takes_what_is_granted.Goals as goal

pub returns : goal.returns
returns c = work_granted
