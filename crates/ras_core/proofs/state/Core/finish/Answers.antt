use Rattle.std.specs.Arc.{arc_value}
use Rattle.ras_core.proofs.CoreSteps.{core-answered}
use Rattle.ras_core.proofs.state.Core.finish.Goals as goal

pub invariant_of-self : goal.invariant_of-self
invariant_of-self c =
    core-answered (arc_value c.self.inside.workload) c.self.inside.store c.self.inside.table c.self.inside.journal c.self.inside.begun c.self.inside.committed c.self.invariant
    c.args.self.now c.self.view_is c.args.t c.args.statement c.args.answer c.close_statement.new.self c.requires.live c.requires.may c.close_statement.ensures
