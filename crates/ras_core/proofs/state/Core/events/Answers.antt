use Rattle.std.specs.Arc.{arc_value}
use Rattle.ras_core.proofs.CoreSteps.{core-run}
use Rattle.ras_core.proofs.state.Core.events.Goals as goal

pub returns-clause-run : goal.returns-clause-run
returns-clause-run c =
    core-run (arc_value c.self.inside.workload) c.self.inside.store c.self.inside.table c.self.inside.journal c.self.inside.begun c.self.inside.committed c.self.invariant
    c.args.self.now c.self.view_is
