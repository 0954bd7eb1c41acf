use Rattle.std.specs.Arc.{arc_value}
use Rattle.ras_core.proofs.CoreSteps.{core-aborted}
use Rattle.ras_core.proofs.state.Core.abort.Goals as goal

pub invariant_of-self : goal.invariant_of-self
invariant_of-self c =
    core-aborted (arc_value c.self.inside.workload) c.self.inside.store c.self.inside.table c.self.inside.journal c.self.inside.begun c.self.inside.committed c.self.invariant
    c.args.self.now c.self.view_is c.args.t c.release_all.new.self c.end.new.self c.requires c.release_all.ensures c.end.ensures
