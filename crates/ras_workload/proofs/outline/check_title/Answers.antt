use Rattle.std.proofs.Common.{◌≡◌, ◌+◌, ◌<◌, ◌≤◌, length, take, false, true, refl, ap, sym, ◌∙◌, rules, arith}
use Rattle.std.proofs.lemmas.Grind.{common_steps}
use Rattle.spec_grammar.specs.Tokens.{is_same, space_length}
use Rattle.spec_workloads.specs.Outline.{bad_heading, title, titled}
use Rattle.spec_workloads.specs.Sections.{line_feeds}
use Rattle.ras_workload.specs.declared.fault.WorkloadFault.TheVariants.{BadHeading}
use Rattle.ras_workload.specs.SectionViews.{section_seen}
use Rattle.ras_workload.proofs.Growing.{told_fault, title_behind, title_alone}
use Rattle.ras_workload.proofs.outline.check_title.Goals as goal

pub returns-then-skipped-section : goal.returns-then-skipped-section
returns-then-skipped-section c = λ later.
    let section = section_seen c.args.section.now in
    let line = c.args.section.now.line + 1 + c.line_feeds.result in
    let same : is_same c.args.section.now.heading.now title ≡ true = sym c.is_same.ensures ∙ c.if-not-is_same.false in
    let feeds : c.line_feeds.result ≡ line_feeds (take c.space_len-skipped.result c.args.section.now.body.now) = first_of (search rules, grind (arith, common_steps)) in
    record {
      is = told_fault (titled section later) (BadHeading line) (bad_heading line) refl
          (title_behind section later c.space_len-skipped.result c.line_feeds.result same c.space_len-skipped.ensures.value c.if-skipped-section.true feeds);
    }

pub returns : goal.returns
returns c = λ later.
    let section = section_seen c.args.section.now in
    let same : is_same c.args.section.now.heading.now title ≡ true = sym c.is_same.ensures ∙ c.if-not-is_same.false in
    record { is = title_alone section later c.space_len-skipped.result same c.space_len-skipped.ensures.value c.if-skipped-section.false }
