use Rattle.std.specs.Arc.{arc_value}
use Rattle.ras_core.proofs.CoreSteps.{core-gave_up}
use Rattle.ras_core.proofs.state.Core.give_up.Goals as goal

pub invariant_of-self : goal.invariant_of-self
invariant_of-self c =
    core-gave_up (arc_value c.self.inside.workload) c.self.inside.store c.self.inside.table c.self.inside.journal c.self.inside.begun c.self.inside.committed c.self.invariant
    c.args.self.now c.self.view_is c.args.t c.args.statement c.close_statement.new.self c.requires.live c.requires.not_closed c.close_statement.ensures
