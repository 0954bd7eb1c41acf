use Rattle.ras_session.proofs.Served.{prepared_served}
use Rattle.ras_session.proofs.laws.prepared_requests_may_be_served.Goals as goal

pub returns : goal.returns
returns c = prepared_served
