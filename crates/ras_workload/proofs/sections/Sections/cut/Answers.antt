use Rattle.std.proofs.Common.{Some, sym, ap, ◌∙◌}
use Rattle.spec_workloads.specs.Outline.{OutlineFault}
use Rattle.ras_workload.specs.Headed.{cut_by}
use Rattle.ras_workload.proofs.Headed.{cut_heading, cut_ended}
use Rattle.ras_workload.proofs.sections.Sections.cut.Goals as goal

pub returns-then-self : goal.returns-then-self
returns-then-self c =
    let s = c.self.inside in
    ap (λ (f : OutlineFault). Some f)
    (sym (cut_heading s.text.now s.line s.at (c.self.invariant.heading c.if-self.true) c.if-self.true) ∙ ap cut_by c.self.view_is)

pub returns-else-self : goal.returns-else-self
returns-else-self c =
    let s = c.self.inside in
    ap (λ (f : OutlineFault). Some f) (sym (cut_ended s.text.now s.line s.at c.if-self.false) ∙ ap cut_by c.self.view_is)
