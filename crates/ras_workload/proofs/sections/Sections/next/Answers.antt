use Rattle.std.proofs.Common.{◌+◌, ◌∷◌, List, ℕ, sym, ap, ◌∙◌, ◌<◌, arith}
use Rattle.std.specs.Prelude.{slice_range}
use Rattle.spec_grammar.specs.Tokens.{Text}
use Rattle.spec_workloads.specs.Sections.{Headed, Section, without_blank_end}
use Rattle.ras_workload.specs.Headed.{headed_at}
use Rattle.ras_workload.proofs.Headed.{heading_behind, text_ended}
use Rattle.ras_workload.proofs.sections.Sections.next.Goals as goal

pub returns-then-self : goal.returns-then-self
returns-then-self c =
    let s = c.self.inside in
    sym c.self.view_is ∙ ap (λ (h : Headed). h.sections) (text_ended s.text.now s.line s.at c.if-self.true)

pub returns : goal.returns
returns c =
    let s = c.self.inside in
    let text = s.text.now in
    let end = c.line_end-behind.result in
    let behind : Text → Headed → List Section = λ heading h. record { line = s.line; heading = heading; behind = end; body = h.front } ∷ h.sections in
    let started : s.at < c.line_end-behind.result = c.line_end-behind.ensures.after in
    sym c.self.view_is
    ∙ ap (λ (h : Headed). h.sections)
    (heading_behind text s.line s.at end started c.line_end-behind.ensures.within c.line_end-behind.ensures.line (c.self.invariant.heading c.if-self.false))
    ∙ ap (behind (without_blank_end (slice_range text s.at end))) c.to_heading-at.ensures.headed
    ∙ ap (λ (t : Text). behind t (record { front = slice_range text end c.to_heading-at.result.0; sections = (headed_at c.to_heading-at.result.1 c.to_heading-at.result.0 text).sections }))
    (sym c.without_blank_end-heading.ensures)
