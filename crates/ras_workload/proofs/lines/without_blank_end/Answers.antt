use Rattle.std.proofs.Common.{◌≡◌, ◌-◌, take, ap, sym, ◌∙◌, arith}
use Rattle.spec_workloads.specs.Sections.{without_blank_end}
use Rattle.ras_workload.proofs.ByLine.{blank_end, other_end, end_before}
use Rattle.ras_workload.proofs.lines.without_blank_end.Goals as goal
use Rattle.ras_workload.proofs.lines.without_blank_end.Goals.{then-loop-end-test+else-is_blank, else-loop-end-test}

pub loop-end-preserved : goal.loop-end-preserved
loop-end-preserved c = record {
  within = omega arith;
  same = c.loop-end.invariant.same
      ∙ ap without_blank_end (end_before c.args.line.now c.loop-end.end c.loop-end-test.true c.loop-end.invariant.within)
      ∙ blank_end (take (c.loop-end.end - 1) c.args.line.now) _ (sym c.is_blank.ensures ∙ c.if-is_blank.true);
}

pub returns : goal.returns
returns c =
    let line = c.args.line.now in
    elim c.loop-end-test.branch [
      | then-loop-end-test+else-is_blank w ↦
          let before = end_before line c.loop-end.end w.loop-end-test.true c.loop-end.invariant.within in
          before ∙ sym (c.loop-end.invariant.same ∙ ap without_blank_end before
          ∙ other_end (take (c.loop-end.end - 1) line) _ (sym w.is_blank.ensures ∙ w.if-is_blank.false))
      | else-loop-end-test w ↦
          let none : c.loop-end.end ≡ 0 = omega (arith, w.loop-end-test.false) in
          ap (λ n. take n line) none ∙ sym (c.loop-end.invariant.same ∙ ap (λ n. without_blank_end (take n line)) none)
    ]
