use Rattle.law_views.proofs.Sessions.{work_stays}
use Rattle.law_views.proofs.laws.work_stays_whatever_others_do.Goals as goal

pub returns : goal.returns
returns c = work_stays
