use Rattle.ras_session.proofs.Ties.{on_ok, told_there}
use Rattle.ras_session.proofs.session.Session.tell.Goals as goal

pub returns-in-Some-clause-told : goal.returns-in-Some-clause-told
returns-in-Some-clause-told c =
    on_ok c.advance.result _ _
    (told_there c.args.self.now c.advance.new.self c.in-Some.step c.args.item c.after_line.result c.after_line.ensures c.in-Some.is) c.advance.ensures.advanced
