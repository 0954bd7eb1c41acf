use Rattle.ras_walk.specs.Places.{opened_seen}
use Rattle.ras_session.proofs.Places.{commits}
use Rattle.ras_session.proofs.session.Session.commit.Goals as goal

pub returns-then-is_none-clause-prepared : goal.returns-then-is_none-clause-prepared
returns-then-is_none-clause-prepared c = λ workload granted place seen read.
    commits workload c.args.self.now (opened_seen c.args.opened) granted c.args.anyway place seen read c.take_changes-changes.new.self
    c.take_changes-changes.result c.take_changes-changes.ensures
