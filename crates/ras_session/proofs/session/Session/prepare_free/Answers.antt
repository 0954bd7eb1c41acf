use Rattle.ras_session.proofs.Places.{free_begins, free_data}
use Rattle.ras_session.proofs.session.Session.prepare_free.Goals as goal

pub returns-in-Word-Begin-clause-prepared : goal.returns-in-Word-Begin-clause-prepared
returns-in-Word-Begin-clause-prepared c = λ attempts place.
    free_begins c.args.workload.now c.args.self.now c.read.new.self c.in_ok-item.item c.in_ok-item.ensures.read attempts place c.begin.result c.in-Word-Begin.is
    c.begin.ensures

pub returns-in-Data-clause-prepared : goal.returns-in-Data-clause-prepared
returns-in-Data-clause-prepared c = λ attempts place.
    free_data c.args.workload.now c.args.self.now c.read.new.self c.in_ok-item.item c.in_ok-item.ensures.read attempts place c.begin-in-Data.result c.in-Data.is
    c.begin-in-Data.ensures
