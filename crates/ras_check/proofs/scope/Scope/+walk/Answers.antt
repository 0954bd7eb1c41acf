use Rattle.std.proofs.Common.{◌≡◌, refl, sym, ◌∙◌, arith}
use Rattle.std.proofs.lemmas.Result.{err_from_is_err_and}
use Rattle.spec_expressions.specs.Check.{checked_axis, checked_expr}
use Rattle.spec_expressions.specs.Names.{with_variable}
use Rattle.ras_check.specs.Walk.{checked_both}
use Rattle.ras_catalog.proofs.Listed.{listed_none, listed_more, listed_stop, listed_all}
use Rattle.ras_check.proofs.Steps.{at_came, some_within, not_entered, entered}
use Rattle.ras_check.proofs.Forms.{bool-walked, number-walked, name-walked, unary-walked, cast-walked, part-walked, cells-walked, sdom-walked, binary-walked, index-walked, case-walked}
use Rattle.ras_check.proofs.Forms.{build-walked, concat-walked, shift-walked, extend-walked, marray-walked, condense-walked, oid-walked, at-walked, trim-walked, some-walked, both-walked}
use Rattle.ras_check.proofs.Forms.{literal-walked, like-walked}
use Rattle.ras_check.proofs.scope.Scope.+walk.Goals as goal

pub form-returns-in-Bool-clause-checked : goal.form-returns-in-Bool-clause-checked
form-returns-in-Bool-clause-checked t c = rw c.in-Bool.is (bool-walked c.in-Bool.b c.args.span c.args.self.now c.typed.ensures)

pub form-returns-in-Number-clause-checked : goal.form-returns-in-Number-clause-checked
form-returns-in-Number-clause-checked t c = rw c.in-Number.is (number-walked c.in-Number.value c.in-Number.atom c.args.span c.args.self.now c.number.ensures)

pub form-returns-in-Name-clause-checked : goal.form-returns-in-Name-clause-checked
form-returns-in-Name-clause-checked t c = rw c.in-Name.is (name-walked c.in-Name.name c.args.span c.args.self.now c.name.ensures)

pub form-returns-in-Unary-clause-checked : goal.form-returns-in-Unary-clause-checked
form-returns-in-Unary-clause-checked t c = rw c.in-Unary.is (unary-walked c.in-Unary.op c.in-Unary.e c.args.span c.args.self.now (rw c.get.ensures at c.walked-e.ensures.checked) c.unary.ensures)

pub form-returns-in-Cast-clause-checked : goal.form-returns-in-Cast-clause-checked
form-returns-in-Cast-clause-checked t c = rw c.in-Cast.is (cast-walked c.in-Cast.to c.in-Cast.e c.args.span c.args.self.now (rw c.get-in-Cast.ensures at c.walked-e-in-Cast.ensures.checked)
    c.cast.ensures)

pub form-returns-in-Cells-clause-checked : goal.form-returns-in-Cells-clause-checked
form-returns-in-Cells-clause-checked t c = rw c.in-Cells.is (cells-walked c.in-Cells.f c.in-Cells.e c.args.span c.args.self.now
    (rw c.get-in-Cells.ensures at c.walked-e-in-Cells.ensures.checked) c.cells.ensures)

pub form-returns-in-Sdom-clause-checked : goal.form-returns-in-Sdom-clause-checked
form-returns-in-Sdom-clause-checked t c = rw c.in-Sdom.is (sdom-walked c.in-Sdom.e c.args.span c.args.self.now (rw c.get-in-Sdom.ensures at c.walked-e-in-Sdom.ensures.checked) c.sdom.ensures)

pub form-returns-in-Binary-clause-checked : goal.form-returns-in-Binary-clause-checked
form-returns-in-Binary-clause-checked t c = rw c.in-Binary.is (binary-walked c.in-Binary.op c.in-Binary.a c.in-Binary.b c.args.span c.args.self.now
    (rw c.get-in-Binary.ensures at c.walked-a.ensures.checked) (rw (c.get-in-Binary-2.ensures, c.walked-a.ensures.same) at c.walked-b.ensures.checked) c.binary.ensures)

pub form-returns-in-Index-clause-checked : goal.form-returns-in-Index-clause-checked
form-returns-in-Index-clause-checked t c = rw c.in-Index.is (index-walked c.in-Index.e c.in-Index.axes c.args.span c.args.self.now
    (rw c.get-in-Index.ensures at c.walked-e-in-Index.ensures.checked) (rw (c.as_slice.ensures, c.walked-e-in-Index.ensures.same) at c.axes-axes.ensures.checked) c.index.ensures)

pub form-returns-in-Part-clause-checked : goal.form-returns-in-Part-clause-checked
form-returns-in-Part-clause-checked t c = rw c.in-Part.is (part-walked c.in-Part.e c.in-Part.part c.args.span c.args.self.now
    (rw c.get-in-Part.ensures at c.walked-e-in-Part.ensures.checked) (rw (c.sources.ensures, c.walked-e-in-Part.ensures.same) at c.component.ensures))

pub form-returns-in-Case-clause-checked : goal.form-returns-in-Case-clause-checked
form-returns-in-Case-clause-checked t c = rw c.in-Case.is (case-walked c.in-Case.arms c.in-Case.other c.args.span c.args.self.now
    (rw c.as_slice-in-Case.ensures at c.pairs-arms.ensures.checked) (rw (c.get-in-Case.ensures, c.pairs-arms.ensures.same) at c.walked-other.ensures.checked) c.case.ensures)

pub form-returns-in-Build-clause-checked : goal.form-returns-in-Build-clause-checked
form-returns-in-Build-clause-checked t c = rw c.in-Build.is (build-walked c.in-Build.parts c.args.span c.args.self.now (rw c.as_slice-in-Build.ensures at c.all-parts.ensures.checked) c.build.ensures)

pub form-returns-in-Concat-clause-checked : goal.form-returns-in-Concat-clause-checked
form-returns-in-Concat-clause-checked t c = rw c.in-Concat.is (concat-walked c.in-Concat.parts c.in-Concat.along c.args.span c.args.self.now
    (rw c.as_slice-in-Concat.ensures at c.all-parts-in-Concat.ensures.checked) c.concat.ensures)

pub form-returns-in-Shift-clause-checked : goal.form-returns-in-Shift-clause-checked
form-returns-in-Shift-clause-checked t c = rw c.in-Shift.is (shift-walked c.in-Shift.e c.in-Shift.offsets c.args.span c.args.self.now
    (rw c.get-in-Shift.ensures at c.walked-e-in-Shift.ensures.checked) (rw (c.as_slice-in-Shift.ensures, c.walked-e-in-Shift.ensures.same) at c.all-offsets.ensures.checked) c.shift.ensures)

pub form-returns-in-Extend-clause-checked : goal.form-returns-in-Extend-clause-checked
form-returns-in-Extend-clause-checked t c = rw c.in-Extend.is (extend-walked c.in-Extend.e c.in-Extend.domain c.args.span c.args.self.now
    (rw c.get-in-Extend.ensures at c.walked-e-in-Extend.ensures.checked) (rw c.walked-e-in-Extend.ensures.same at c.domain-domain-in-Extend.ensures.checked) c.extend.ensures)

pub form-returns-in-Marray-clause-checked : goal.form-returns-in-Marray-clause-checked
form-returns-in-Marray-clause-checked t c = rw c.in-Marray.is (marray-walked c.in-Marray.x c.in-Marray.domain c.in-Marray.e c.args.span c.args.self.now c.domain-domain.ensures.checked
    c.axes_in.ensures (rw (c.get-in-Marray.ensures, c.domain-domain.ensures.same) at c.within-e.ensures.checked)
    (rw (c.within-e.ensures.same, c.domain-domain.ensures.same) at c.new_name-x.ensures) c.marray.ensures)

pub form-returns-in-Condense-clause-checked : goal.form-returns-in-Condense-clause-checked
form-returns-in-Condense-clause-checked t c = rw c.in-Condense.is (condense-walked c.in-Condense.op c.in-Condense.x c.in-Condense.domain c.in-Condense.cond c.in-Condense.e c.args.span
    c.args.self.now c.domain-domain-in-Condense.ensures.checked c.axes_in-in-Condense.ensures (rw c.domain-domain-in-Condense.ensures.same at c.test_within-cond.ensures.checked)
    c.axes_in-in-Condense-2.ensures (rw (c.get-in-Condense.ensures, c.test_within-cond.ensures.same, c.domain-domain-in-Condense.ensures.same) at c.within-e-in-Condense.ensures.checked)
    (rw (c.within-e-in-Condense.ensures.same, c.test_within-cond.ensures.same, c.domain-domain-in-Condense.ensures.same) at c.new_name-x-in-Condense.ensures) c.condense.ensures)

pub form-returns-in-Oid-clause-checked : goal.form-returns-in-Oid-clause-checked
form-returns-in-Oid-clause-checked t c = rw c.in-Oid.is (oid-walked c.in-Oid.a c.args.span c.args.self.now c.oid.ensures)

pub axis-returns-in-At-clause-checked : goal.axis-returns-in-At-clause-checked
axis-returns-in-At-clause-checked t c = rw c.in-At.is (at-walked c.in-At.e c.args.self.now c.walked-e.ensures.checked c.position.ensures)

pub axis-returns-in-Trim-clause-checked : goal.axis-returns-in-Trim-clause-checked
axis-returns-in-Trim-clause-checked t c = rw c.in-Trim.is (trim-walked c.in-Trim.a c.in-Trim.b c.args.self.now c.bound-a.ensures.checked
    (rw c.bound-a.ensures.same at c.bound-b.ensures.checked) c.trim.ensures)

pub bound-returns-in-None-clause-checked : goal.bound-returns-in-None-clause-checked
bound-returns-in-None-clause-checked t c = rw c.in-None.is (record { tells = refl })

pub bound-returns-in-Some-clause-checked : goal.bound-returns-in-Some-clause-checked
bound-returns-in-Some-clause-checked t c = rw c.in-Some.is (some-walked c.in-Some.e c.args.self.now c.walked-e.ensures.checked c.given.ensures)

pub domain-returns-in-Literal-clause-checked : goal.domain-returns-in-Literal-clause-checked
domain-returns-in-Literal-clause-checked t c = rw c.in-Literal.is (literal-walked c.in-Literal.pairs c.args.self.now (rw c.as_slice.ensures at c.pairs-pairs.ensures.checked) c.literal.ensures)

pub domain-returns-in-Sdom-clause-checked : goal.domain-returns-in-Sdom-clause-checked
domain-returns-in-Sdom-clause-checked t c = rw c.in-Sdom.is (like-walked c.in-Sdom.e c.args.self.now (rw c.get.ensures at c.walked-e.ensures.checked) c.like.ensures)

pub test_within-returns-in-Ok-clause-checked : goal.test_within-returns-in-Ok-clause-checked
test_within-returns-in-Ok-clause-checked t c = rw (c.in-None.is, c.in-Ok.is) (record { goes_on = record { tells = refl } })

pub test_within-returns-in-Err-clause-checked : goal.test_within-returns-in-Err-clause-checked
test_within-returns-in-Err-clause-checked t c = rw c.in-Err.is (record { goes_on = refl })

pub test_within-returns-in-Some-clause-checked : goal.test_within-returns-in-Some-clause-checked
test_within-returns-in-Some-clause-checked t c = rw c.in-Some.is (some_within (λ n. checked_expr c.in-Some.e (with_variable c.args.x.now n c.args.self.now))
    (rw c.get.ensures at c.within-e.ensures.checked) c.given.ensures)

pub within-returns-in-Err-clause-checked : goal.within-returns-in-Err-clause-checked
within-returns-in-Err-clause-checked t c = record {
  goes_on = not_entered c.args.x.now c.args.self.now c.enter_counted.new.self
      (λ n. checked_expr c.args.e.now (with_variable c.args.x.now n c.args.self.now)) c.args.axes c.in-Err.error c.in-Err.ensures;
}

pub within-returns-in-Ok-clause-checked : goal.within-returns-in-Ok-clause-checked
within-returns-in-Ok-clause-checked t c = record {
  goes_on = entered c.args.x.now c.args.self.now c.enter_counted.new.self c.args.e.now c.args.axes c.in-Ok.field-0 c.walked-e.result
      c.in-Ok.ensures c.walked-e.ensures.checked;
}

pub all-loop-part-init : goal.all-loop-part-init
all-loop-part-init t c = rw c.new-all.ensures (record { same = refl; listed = listed_none (λ e. checked_expr e c.args.self.now) c.args.parts.now })

pub all-returns-in_err-part-clause-checked : goal.all-returns-in_err-part-clause-checked
all-returns-in_err-part-clause-checked t c =
    let p = err_from_is_err_and c.from_residual.result c.from_residual.ensures.1 in
    rw (p.1, p.2) (listed_stop (λ e. checked_expr e c.args.self.now) c.args.parts.now c.loop-part.part-index c.loop-part.all c.part-item.result c.in_err-part.field-0.0 (omega arith)
    (sym c.part-item.is) c.loop-part.invariant.listed (rw c.loop-part.invariant.same at c.in_err-part.ensures.checked))

pub all-loop-part-preserved : goal.all-loop-part-preserved
all-loop-part-preserved t c = record {
  same = c.walked.ensures.same ∙ c.loop-part.invariant.same;
  listed = rw (c.in_ok-push.ensures, c.into_inner.ensures) (listed_more (λ e. checked_expr e c.args.self.now) c.args.parts.now c.loop-part.part-index c.loop-part.all c.part-item.result
      c.in_ok-part.part (omega arith) (sym c.part-item.is) c.loop-part.invariant.listed (rw c.loop-part.invariant.same at c.in_ok-part.ensures.checked));
}

pub all-returns-clause-checked : goal.all-returns-clause-checked
all-returns-clause-checked t c = listed_all (λ e. checked_expr e c.args.self.now) c.args.parts.now c.loop-part.part-index c.loop-part.all (omega arith) c.loop-part.invariant.listed

pub axes-loop-axis-init : goal.axes-loop-axis-init
axes-loop-axis-init t c = rw c.new-all.ensures (record { same = refl; listed = listed_none (λ axis. checked_axis axis c.args.self.now) c.args.axes.now })

pub axes-returns-in_err-axis-clause-checked : goal.axes-returns-in_err-axis-clause-checked
axes-returns-in_err-axis-clause-checked t c =
    let p = err_from_is_err_and c.from_residual.result c.from_residual.ensures.1 in
    rw (p.1, p.2) (listed_stop (λ axis. checked_axis axis c.args.self.now) c.args.axes.now c.loop-axis.axis-index c.loop-axis.all c.axis-item.result c.in_err-axis.field-0.0 (omega arith)
    (sym c.axis-item.is) c.loop-axis.invariant.listed (rw c.loop-axis.invariant.same at c.in_err-axis.ensures.checked))

pub axes-loop-axis-preserved : goal.axes-loop-axis-preserved
axes-loop-axis-preserved t c = record {
  same = c.axis.ensures.same ∙ c.loop-axis.invariant.same;
  listed = rw c.in_ok-push.ensures (listed_more (λ axis. checked_axis axis c.args.self.now) c.args.axes.now c.loop-axis.axis-index c.loop-axis.all c.axis-item.result c.in_ok-axis.axis
      (omega arith) (sym c.axis-item.is) c.loop-axis.invariant.listed (rw c.loop-axis.invariant.same at c.in_ok-axis.ensures.checked));
}

pub axes-returns-clause-checked : goal.axes-returns-clause-checked
axes-returns-clause-checked t c = listed_all (λ axis. checked_axis axis c.args.self.now) c.args.axes.now c.loop-axis.axis-index c.loop-axis.all (omega arith) c.loop-axis.invariant.listed

pub pairs-loop-pair-init : goal.pairs-loop-pair-init
pairs-loop-pair-init t c = rw c.new-all.ensures (record { same = refl; listed = listed_none (checked_both c.args.self.now) c.args.pairs.now })

pub pairs-returns-in_err-both-clause-checked : goal.pairs-returns-in_err-both-clause-checked
pairs-returns-in_err-both-clause-checked t c =
    let p = err_from_is_err_and c.from_residual.result c.from_residual.ensures.1 in
    rw (p.1, p.2) (listed_stop (checked_both c.args.self.now) c.args.pairs.now c.loop-pair.pair-index c.loop-pair.all c.pair-item.result c.in_err-both.field-0.0 (omega arith)
    (sym c.pair-item.is) c.loop-pair.invariant.listed (at_came c.in_err-both.was (both-walked c.pair-item.result c.args.self.now
    (rw c.loop-pair.invariant.same at c.walked-first.ensures.checked) (rw (c.walked-first.ensures.same, c.loop-pair.invariant.same) at c.walked-second.ensures.checked) c.both.ensures)))

pub pairs-loop-pair-preserved : goal.pairs-loop-pair-preserved
pairs-loop-pair-preserved t c = record {
  same = c.walked-second.ensures.same ∙ c.walked-first.ensures.same ∙ c.loop-pair.invariant.same;
  listed = rw c.in_ok-push.ensures (listed_more (checked_both c.args.self.now) c.args.pairs.now c.loop-pair.pair-index c.loop-pair.all c.pair-item.result c.in_ok-both.both (omega arith)
      (sym c.pair-item.is) c.loop-pair.invariant.listed (at_came c.in_ok-both.was (both-walked c.pair-item.result c.args.self.now
      (rw c.loop-pair.invariant.same at c.walked-first.ensures.checked) (rw (c.walked-first.ensures.same, c.loop-pair.invariant.same) at c.walked-second.ensures.checked) c.both.ensures)));
}

pub pairs-returns-clause-checked : goal.pairs-returns-clause-checked
pairs-returns-clause-checked t c = listed_all (checked_both c.args.self.now) c.args.pairs.now c.loop-pair.pair-index c.loop-pair.all (omega arith) c.loop-pair.invariant.listed
