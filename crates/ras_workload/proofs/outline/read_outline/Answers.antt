use Rattle.std.proofs.Common.{List, Option, Result, Ok, ℕ, refl, sym, ap, subst, ◌∙◌}
use Rattle.std.proofs.lemmas.Result.{err_from_is_err_and}
use Rattle.spec_workloads.specs.Outline as spec
use Rattle.spec_workloads.specs.Outline.{OutlineFault, all, bad_heading, heading_of, outline_after, outline_of, with_section}
use Rattle.spec_workloads.specs.Sections.{Section}
use Rattle.ras_workload.specs.declared.fault.WorkloadFault.TheVariants.{BadHeading}
use Rattle.ras_workload.specs.declared.outline.Due.{Due}
use Rattle.ras_workload.specs.Outlines.{GoesOnBy, due_seen, outline_seen}
use Rattle.ras_workload.specs.SectionViews.{section_seen}
use Rattle.ras_workload.proofs.Growing.{no_section, title_first, told_fault}
use Rattle.ras_workload.proofs.outline.read_outline.Goals as goal

pub returns-in_default-next : goal.returns-in_default-next
returns-in_default-next c = record {
  is = told_fault (outline_of c.args.text.now) (BadHeading 1) (bad_heading 1) refl (no_section c.args.text.now c.in-Some.sections c.in-Some.ensures.some c.in_default-next.ensures);
}

pub returns-in_err-check_title : goal.returns-in_err-check_title
returns-in_err-check_title c =
    let p = err_from_is_err_and c.from_residual.result c.from_residual.ensures.1 in
    let later = c.next.new.self in
    rw (p.1, p.2) (record {
      is = λ fault seen.
          title_first c.args.text.now c.in-Some.sections c.in-Some.ensures.some (section_seen c.in-Some-next.title) later c.in-Some-next.ensures
          ∙ (c.in_err-check_title.ensures later).is fault seen;
    })

pub loop-section-init : goal.loop-section-init
loop-section-init c =
    let later = c.next.new.self in
    title_first c.args.text.now c.in-Some.sections c.in-Some.ensures.some (section_seen c.in-Some-next.title) later c.in-Some-next.ensures
    ∙ (c.in_ok-check_title.ensures later).is
    ∙ ap (λ (o : spec.Outline). outline_after all o later) (sym c.new-outline.ensures)

pub returns-in_err-next : goal.returns-in_err-next
returns-in_err-next c =
    let p = err_from_is_err_and c.from_residual-in_err-next.result c.from_residual-in_err-next.ensures.1 in
    let later = c.next-in-loop-section.new.self in
    rw (p.1, p.2) (record {
      is = λ fault seen.
          c.loop-section.invariant
          ∙ ap (λ (ss : List Section). outline_after (due_seen c.loop-section.due) (outline_seen c.loop-section.outline) ss) c.in-Some-next-2.ensures
          ∙ (c.in_err-next.ensures later c.cut.ensures).is (λ next more. outline_after next more later) fault seen;
    })

pub loop-section-preserved : goal.loop-section-preserved
loop-section-preserved c =
    let later = c.next-in-loop-section.new.self in
    let section = section_seen c.in-Some-next-2.section in
    let goes_on : spec.Due → spec.Outline → Result (spec.Outline × ℕ) OutlineFault = λ next more. outline_after next more c.next-in-loop-section.new.self in
    let told : Result (spec.Outline × ℕ) OutlineFault =
    with_section (due_seen c.loop-section.due) (outline_seen c.loop-section.outline) section later (heading_of section.heading) goes_on in
    c.loop-section.invariant
    ∙ ap (λ (ss : List Section). outline_after (due_seen c.loop-section.due) (outline_seen c.loop-section.outline) ss) c.in-Some-next-2.ensures
    ∙ subst
    (λ (o : Option Due). GoesOnBy told goes_on section.behind (Ok o) c.take.new.self)
    c.in-Some-2.is ((c.in_ok-next.ensures later c.cut.ensures).is goes_on)

pub returns-in-None : goal.returns-in-None
returns-in-None c =
    let later = c.next-in-loop-section.new.self in
    let section = section_seen c.in-Some-next-2.section in
    let goes_on : spec.Due → spec.Outline → Result (spec.Outline × ℕ) OutlineFault = λ next more. outline_after next more c.next-in-loop-section.new.self in
    let told : Result (spec.Outline × ℕ) OutlineFault =
    with_section (due_seen c.loop-section.due) (outline_seen c.loop-section.outline) section later (heading_of section.heading) goes_on in
    record {
      is = c.loop-section.invariant
          ∙ ap (λ (ss : List Section). outline_after (due_seen c.loop-section.due) (outline_seen c.loop-section.outline) ss) c.in-Some-next-2.ensures
          ∙ subst
          (λ (o : Option Due). GoesOnBy told goes_on section.behind (Ok o) c.take.new.self)
          c.in-None.is ((c.in_ok-next.ensures later c.cut.ensures).is goes_on);
    }
