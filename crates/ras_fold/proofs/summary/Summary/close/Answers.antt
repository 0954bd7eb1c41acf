use Rattle.std.proofs.Common.{◌∙◌}
use Rattle.ras_fold.proofs.Summaries.{value_closed}
use Rattle.ras_fold.proofs.summary.Summary.close.Goals as goal

pub returns-in-None : goal.returns-in-None
returns-in-None c = λ op zs faults e.
    let s = c.self.inside in
    value_closed s.op s.count s.kept s.fault _ op zs faults (c.self.view_is ∙ e) c.self.invariant.1 c.in-None.is c.closed.ensures
