use Rattle.law_views.proofs.Sessions.{own_seen, work_rewrites}
use Rattle.law_views.proofs.laws.own_views_serve.Goals as goal

pub returns-clause-leads : goal.returns-clause-leads
returns-clause-leads c = work_rewrites

pub returns-clause-seen : goal.returns-clause-seen
returns-clause-seen c = own_seen
