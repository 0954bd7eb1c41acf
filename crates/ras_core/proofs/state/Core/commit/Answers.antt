use Rattle.std.specs.Arc.{arc_value}
use Rattle.ras_core.proofs.CoreSteps.{core-committed, core-commits, core-kept, core-leaves, core-unchanged}
use Rattle.ras_core.proofs.state.Core.commit.Goals as goal

pub invariant_of-self : goal.invariant_of-self
invariant_of-self c =
    core-committed (arc_value c.self.inside.workload) c.self.inside.store c.self.inside.table c.self.inside.journal c.self.inside.begun c.self.inside.committed c.self.invariant
    c.args.self.now c.self.view_is c.args.t c.args.changes c.reserve_for.new.self c.apply_prepared.new.self c.release_all.new.self c.end.new.self
    c.requires.live c.requires.rewrites c.reserve_for.ensures.kept c.apply_prepared.ensures.changed c.release_all.ensures c.end.ensures

pub invariant_of-self-in-Err : goal.invariant_of-self-in-Err
invariant_of-self-in-Err c =
    core-kept (arc_value c.self.inside.workload) c.self.inside.store c.self.inside.table c.self.inside.journal c.self.inside.begun c.self.inside.committed c.self.invariant
    c.args.self.now c.self.view_is c.reserve_for.new.self c.reserve_for.ensures.kept

pub returns-in-Ok-clause-committed : goal.returns-in-Ok-clause-committed
returns-in-Ok-clause-committed c =
    core-commits (arc_value c.self.inside.workload) c.self.inside.store c.self.inside.table c.self.inside.journal c.self.inside.begun c.self.inside.committed c.self.invariant
    c.args.self.now c.self.view_is c.args.t c.args.changes c.reserve_for.new.self c.apply_prepared.new.self c.release_all.new.self c.end.new.self
    c.requires.live c.requires.rewrites c.reserve_for.ensures.kept c.apply_prepared.ensures.changed c.release_all.ensures c.end.ensures

pub returns-in-Ok-clause-others : goal.returns-in-Ok-clause-others
returns-in-Ok-clause-others c =
    core-leaves (arc_value c.self.inside.workload) c.self.inside.store c.self.inside.table c.self.inside.journal c.self.inside.begun c.self.inside.committed c.self.invariant
    c.args.self.now c.self.view_is c.args.t c.args.changes c.reserve_for.new.self c.apply_prepared.new.self c.release_all.new.self c.end.new.self
    c.requires.live c.requires.rewrites c.reserve_for.ensures.kept c.apply_prepared.ensures.changed c.release_all.ensures c.end.ensures

pub returns-in-Err-clause-err : goal.returns-in-Err-clause-err
returns-in-Err-clause-err c =
    core-unchanged (arc_value c.self.inside.workload) c.self.inside.store c.self.inside.table c.self.inside.journal c.self.inside.begun c.self.inside.committed c.self.invariant
    c.args.self.now c.self.view_is c.reserve_for.new.self c.reserve_for.ensures.kept
