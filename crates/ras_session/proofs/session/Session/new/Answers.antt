use Rattle.ras_session.proofs.Begins.{tied_new}
use Rattle.ras_session.proofs.session.Session.new.Goals as goal

pub returns-clause-tied : goal.returns-clause-tied
returns-clause-tied c = λ programs workload script are there.
    tied_new programs workload script c.args.number c.new.result c.new-2.result c.new-3.result c.new.ensures c.new-2.ensures.kept c.new-2.ensures.own
    c.new-3.ensures are there
