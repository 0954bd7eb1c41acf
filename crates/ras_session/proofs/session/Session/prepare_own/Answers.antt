use Rattle.std.proofs.Common.{ap}
use Rattle.law_walks.specs.Session.{asking_in}
use Rattle.ras_session.proofs.Places.{data_behind}
use Rattle.ras_session.proofs.Ties.{if_ok}
use Rattle.ras_session.proofs.session.Session.prepare_own.Goals as goal

pub returns-in-Data-clause-prepared : goal.returns-in-Data-clause-prepared
returns-in-Data-clause-prepared g c =
    if_ok c.prepare_data.result _ _
    (λ request prepared granted place.
    data_behind c.args.workload.now c.args.self.now c.read.new.self c.prepare_data.new.self c.in_ok-item.item c.args.t request c.in_ok-item.ensures.read
    (ap asking_in place) c.in-Data.is prepared)
    c.prepare_data.ensures.prepared
