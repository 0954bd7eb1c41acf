use Rattle.ras_walk.specs.Places.{closed_seen}
use Rattle.ras_session.proofs.Places.{ending_commits}
use Rattle.ras_session.proofs.session.Session.prepare_ending.Goals as goal

pub returns-in-Success-clause-prepared : goal.returns-in-Success-clause-prepared
returns-in-Success-clause-prepared c = λ workload place.
    ending_commits workload c.args.self.now c.take_changes-changes.new.self c.args.t (closed_seen c.args.closed) c.take_changes-changes.result
    c.take_changes-changes.ensures place
