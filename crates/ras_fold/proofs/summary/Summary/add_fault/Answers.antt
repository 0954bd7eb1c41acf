use Rattle.std.proofs.Common.{◌∙◌}
use Rattle.ras_fold.proofs.Summaries.{value_with_fault}
use Rattle.ras_fold.proofs.summary.Summary.add_fault.Goals as goal

pub returns-clause-adds : goal.returns-clause-adds
returns-clause-adds c = λ op zs faults e.
    let s = c.self.inside in
    value_with_fault s.op s.count s.kept s.fault _ op zs faults (c.args.place, c.args.fault)
    (c.self.view_is ∙ e) c.earlier-self-inside.ensures
