use Rattle.std.proofs.Common.{Ok, Err, Some, None, refl, ap, subst, ◌∙◌, arith}
use Rattle.std.specs.Prelude.{slice_get}
use Rattle.std.proofs.lemmas.Result.{err_from_is_err_and}
use Rattle.spec_expressions.specs.Tree.{tree_of}
use Rattle.ras_shape.proofs.Arms.{at_node, arm_truth, arm_number, arm_iterator, arm_variable, arm_unary, arm_cast, arm_binary, arm_index, arm_part, arm_case}
use Rattle.ras_shape.proofs.Arms.{arm_build, arm_marray, arm_condense, arm_folded, arm_shift, arm_extend, arm_concat, arm_domain, arm_oid}
use Rattle.ras_shape.proofs.AxesSeen.{edge_sees, edge_stops, position_found, position_stops, trim_found}
use Rattle.ras_shape.proofs.DomainsSeen.{sees_literal, literal_stops, sees_taken, taken_stops}
use Rattle.ras_shape.proofs.IndexTurns.{StepsEach, cuts_stop, cuts_over, cuts_turn}
use Rattle.ras_shape.proofs.Looking.{sees_form}
use Rattle.ras_shape.proofs.TreesSeen.{node_Bool, node_Number, node_Iterator, node_Variable, node_Unary, node_Cast, node_Binary, node_Index, node_Part, node_Case}
use Rattle.ras_shape.proofs.TreesSeen.{node_Build, node_Marray, node_Condense, node_Cells, node_Shift, node_Extend, node_Concat, node_Sdom, node_Oid}
use Rattle.ras_shape.proofs.walk.+see.Goals as goal

pub see-returns-in-Bool : goal.see-returns-in-Bool
see-returns-in-Bool t c = at_node c.args.domains.now (tree_of c.args.e.now) _ _ _ _ (node_Bool c.args.e.now _ c.in-Bool.is)
    (arm_truth c.args.domains.now _ _ _ _ c.plain.ensures)

pub see-returns-in-Number : goal.see-returns-in-Number
see-returns-in-Number t c = at_node c.args.domains.now (tree_of c.args.e.now) _ _ _ (Ok c.number.result) (node_Number c.args.e.now _ _ c.in-Number.is)
    (arm_number c.args.domains.now _ _ _ _ _ c.number.ensures)

pub see-returns-in-Iterator : goal.see-returns-in-Iterator
see-returns-in-Iterator t c = at_node c.args.domains.now (tree_of c.args.e.now) _ _ _ _ (node_Iterator c.args.e.now _ _ c.in-Iterator.is)
    (arm_iterator c.args.domains.now _ _ _ _ _ c.iterator.ensures c.plain-in-Iterator.ensures)

pub see-returns-in-Variable : goal.see-returns-in-Variable
see-returns-in-Variable t c = at_node c.args.domains.now (tree_of c.args.e.now) _ _ _ _ (node_Variable c.args.e.now _ c.in-Variable.is)
    (arm_variable c.args.domains.now _ _ _ _ c.plain-in-Variable.ensures)

pub see-returns-in-Unary : goal.see-returns-in-Unary
see-returns-in-Unary t c = at_node c.args.domains.now (tree_of c.args.e.now) _ _ _ _ (node_Unary c.args.e.now _ _ c.in-Unary.is)
    (arm_unary c.args.domains.now _ _ _ _ _ _ (rw c.get.ensures at c.see-e.ensures) c.unary.ensures)

pub see-returns-in-Cast : goal.see-returns-in-Cast
see-returns-in-Cast t c = at_node c.args.domains.now (tree_of c.args.e.now) _ _ _ _ (node_Cast c.args.e.now _ _ c.in-Cast.is)
    (arm_cast c.args.domains.now _ _ _ _ _ _ _ (rw c.get-in-Cast.ensures at c.see-e-in-Cast.ensures) c.form_of.ensures c.plain-in-Cast.ensures)

pub see-returns-in-Binary : goal.see-returns-in-Binary
see-returns-in-Binary t c = at_node c.args.domains.now (tree_of c.args.e.now) _ _ _ _ (node_Binary c.args.e.now _ _ _ c.in-Binary.is)
    (arm_binary c.args.domains.now _ _ _ _ _ _ _ _ (rw c.get-in-Binary.ensures at c.see-a.ensures) (rw c.get-in-Binary-2.ensures at c.see-b.ensures) c.binary.ensures.form c.binary.ensures.value)

pub see-returns-in-Index : goal.see-returns-in-Index
see-returns-in-Index t c = at_node c.args.domains.now (tree_of c.args.e.now) _ _ _ _ (node_Index c.args.e.now _ _ c.in-Index.is)
    (arm_index c.args.domains.now _ _ _ _ _ _ _ _ _ _ _ (rw c.get-in-Index-2.ensures at c.see.ensures) c.form_of-form.ensures c.axes_seen.ensures
    (rw c.as_slice-in-Index.ensures at c.see_cuts-cuts.ensures) (rw (c.get-in-Index.ensures, c.as_slice.ensures) at c.index_way-way.ensures) c.index.ensures c.plain-in-Index.ensures)

pub see-returns-in-Part : goal.see-returns-in-Part
see-returns-in-Part t c = at_node c.args.domains.now (tree_of c.args.e.now) _ _ _ _ (node_Part c.args.e.now _ _ c.in-Part.is)
    (arm_part c.args.domains.now _ _ _ _ _ _ (rw c.get-in-Part-2.ensures at c.see-whole.ensures) (rw (c.part_way-way.ensures, c.get-in-Part.ensures) at c.look_at_part.ensures))

pub see-returns-in-Case : goal.see-returns-in-Case
see-returns-in-Case t c = at_node c.args.domains.now (tree_of c.args.e.now) _ _ _ _ (node_Case c.args.e.now _ _ c.in-Case.is)
    (arm_case c.args.domains.now _ _ _ _ _ _ _ _ _ (rw c.as_slice-in-Case.ensures at c.see_pairs-arms.ensures) (rw c.get-in-Case.ensures at c.see-in-Case.ensures)
    c.width_of-width.ensures.width (rw c.form_of-other.ensures at c.case.ensures) c.plain-in-Case.ensures)

pub see-returns-in-Build : goal.see-returns-in-Build
see-returns-in-Build t c = at_node c.args.domains.now (tree_of c.args.e.now) _ _ _ _ (node_Build c.args.e.now _ c.in-Build.is)
    (arm_build c.args.domains.now _ _ _ _ _ _ _ (rw c.as_slice-in-Build.ensures at c.see_all-parts.ensures) c.width_of-width.ensures.width c.build.ensures c.plain-in-Build.ensures)

pub see-returns-in-Marray : goal.see-returns-in-Marray
see-returns-in-Marray t c = at_node c.args.domains.now (tree_of c.args.e.now) _ _ _ _ (node_Marray c.args.e.now _ _ _ c.in-Marray.is)
    (arm_marray c.args.domains.now _ _ _ _ _ _ _ _ _ _ c.see_domain-over.ensures (rw c.get-in-Marray.ensures at c.see-in-Marray.ensures) c.width_of-width.ensures.width
    (rw c.form_of-inner.ensures at c.marray.ensures) c.plain-in-Marray.ensures)

pub see-returns-in-Condense : goal.see-returns-in-Condense
see-returns-in-Condense t c = at_node c.args.domains.now (tree_of c.args.e.now) _ _ _ _ (node_Condense c.args.e.now _ _ _ _ _ c.in-Condense.is)
    (arm_condense c.args.domains.now _ _ _ _ _ _ _ _ _ _ _ _ c.see_domain-over-in-Condense.ensures c.see_condition-test.ensures (rw c.get-in-Condense.ensures at c.see-in-Condense.ensures)
    (rw c.form_of-inner-in-Condense.ensures at c.condense.ensures) c.plain-in-Condense.ensures)

pub see-returns-in-Cells : goal.see-returns-in-Cells
see-returns-in-Cells t c = at_node c.args.domains.now (tree_of c.args.e.now) _ _ _ _ (node_Cells c.args.e.now _ _ c.in-Cells.is)
    (arm_folded c.args.domains.now _ _ _ _ _ _ _ (rw c.get-in-Cells.ensures at c.see-in-Cells.ensures) (rw c.form_of-e.ensures at c.scalar.ensures) c.plain-in-Cells.ensures)

pub see-returns-in-Shift : goal.see-returns-in-Shift
see-returns-in-Shift t c = at_node c.args.domains.now (tree_of c.args.e.now) _ _ _ _ (node_Shift c.args.e.now _ _ c.in-Shift.is)
    (arm_shift c.args.domains.now _ _ _ _ _ _ _ _ (rw c.get-in-Shift.ensures at c.see-in-Shift.ensures) (rw c.as_slice-in-Shift.ensures at c.see_offsets-offsets.ensures)
    (rw c.form_of-e-in-Shift.ensures at c.shift.ensures) c.plain-in-Shift.ensures)

pub see-returns-in-Extend : goal.see-returns-in-Extend
see-returns-in-Extend t c = at_node c.args.domains.now (tree_of c.args.e.now) _ _ _ _ (node_Extend c.args.e.now _ _ c.in-Extend.is)
    (arm_extend c.args.domains.now _ _ _ _ _ _ _ _ _ (rw c.get-in-Extend.ensures at c.see-in-Extend.ensures) c.see_domain-over-in-Extend.ensures c.width_of-width.ensures.width
    (rw c.form_of-e-in-Extend.ensures at c.extend.ensures) c.plain-in-Extend.ensures)

pub see-returns-in-Concat : goal.see-returns-in-Concat
see-returns-in-Concat t c = at_node c.args.domains.now (tree_of c.args.e.now) _ _ _ _ (node_Concat c.args.e.now _ _ c.in-Concat.is)
    (arm_concat c.args.domains.now _ _ _ _ _ _ _ _ (rw c.as_slice-in-Concat.ensures at c.see_all-parts-in-Concat.ensures) c.width_of-width.ensures.width c.concat.ensures c.plain-in-Concat.ensures)

pub see-returns-in-Sdom : goal.see-returns-in-Sdom
see-returns-in-Sdom t c = at_node c.args.domains.now (tree_of c.args.e.now) _ _ _ _ (node_Sdom c.args.e.now _ c.in-Sdom.is)
    (arm_domain c.args.domains.now _ _ _ _ _ _ (rw c.get-in-Sdom.ensures at c.see-in-Sdom.ensures) (rw c.form_of-e-in-Sdom.ensures at c.domain.ensures) c.plain-in-Sdom.ensures)

pub see-returns-in-Oid : goal.see-returns-in-Oid
see-returns-in-Oid t c = at_node c.args.domains.now (tree_of c.args.e.now) _ _ _ _ (node_Oid c.args.e.now _ c.in-Oid.is)
    (arm_oid c.args.domains.now _ _ _ _ c.plain-in-Oid.ensures)

pub see_condition-returns-in-Some : goal.see_condition-returns-in-Some
see_condition-returns-in-Some t c = rw (c.in-Some.is, c.form_of.ensures) (sees_form c.args.domains.now _ _ (rw c.get.ensures at c.see-e.ensures))

pub see_condition-returns-in-None : goal.see_condition-returns-in-None
see_condition-returns-in-None t c = rw c.in-None.is refl

pub see_edge-returns-in_err-look-in-Some : goal.see_edge-returns-in_err-look-in-Some
see_edge-returns-in_err-look-in-Some t c =
    let p = err_from_is_err_and c.from_residual.result c.from_residual.ensures.1 in
    rw (p.1, p.2, c.in-Some.is) (edge_stops c.args.domains.now c.args.own.now (tree_of c.in-Some.e) c.in_err-look-in-Some.field-0.0 c.in_err-look-in-Some.ensures)

pub see_edge-returns-in_ok-look-in-Some : goal.see_edge-returns-in_ok-look-in-Some
see_edge-returns-in_ok-look-in-Some t c =
    rw c.in-Some.is (edge_sees c.args.domains.now c.args.own.now (tree_of c.in-Some.e) c.in_ok-look-in-Some.look c.in_ok-look-in-Some.ensures)

pub see_edge-returns-in-None : goal.see_edge-returns-in-None
see_edge-returns-in-None t c = rw (c.in-None.is, c.known.ensures) refl

pub see_domain-returns-in_err-cuts-in-Literal : goal.see_domain-returns-in_err-cuts-in-Literal
see_domain-returns-in_err-cuts-in-Literal t c =
    let p = err_from_is_err_and c.from_residual.result c.from_residual.ensures.1 in
    rw (p.1, p.2) (literal_stops c.args.domains.now c.args.domain.now c.in-Literal.pairs c.in_err-cuts-in-Literal.field-0.0 c.in-Literal.is
    (rw c.as_slice.ensures at c.in_err-cuts-in-Literal.ensures))

pub see_domain-returns-in_ok-cuts-in-Literal : goal.see_domain-returns-in_ok-cuts-in-Literal
see_domain-returns-in_ok-cuts-in-Literal t c =
    sees_literal c.args.domains.now c.args.domain.now c.in-Literal.pairs c.in_ok-cuts-in-Literal.cuts c.in-Literal.is (rw c.as_slice.ensures at c.in_ok-cuts-in-Literal.ensures)

pub see_domain-returns-in_err-look-in-Sdom : goal.see_domain-returns-in_err-look-in-Sdom
see_domain-returns-in_err-look-in-Sdom t c =
    let p = err_from_is_err_and c.from_residual-in_err-look-in-Sdom.result c.from_residual-in_err-look-in-Sdom.ensures.1 in
    rw (p.1, p.2) (taken_stops c.args.domains.now c.args.domain.now c.in-Sdom.e c.in_err-look-in-Sdom.field-0.0 c.in-Sdom.is (rw c.get.ensures at c.in_err-look-in-Sdom.ensures))

pub see_domain-returns-in_ok-look-in-Sdom : goal.see_domain-returns-in_ok-look-in-Sdom
see_domain-returns-in_ok-look-in-Sdom t c =
    sees_taken c.args.domains.now c.args.domain.now c.in-Sdom.e c.in_ok-look-in-Sdom.look c.in-Sdom.is (rw c.get.ensures at c.in_ok-look-in-Sdom.ensures)

pub see_cut-returns-in_err-place-in-At : goal.see_cut-returns-in_err-place-in-At
see_cut-returns-in_err-place-in-At t c =
    let p = err_from_is_err_and c.from_residual.result c.from_residual.ensures.1 in
    rw (p.1, p.2) (position_stops c.args.domains.now c.args.cut.now c.in-At.e c.args.axis c.in-Some.field-0 c.in_err-place-in-At.field-0.0 c.in-At.is c.in-Some.is c.in_err-place-in-At.ensures)

pub see_cut-returns-in_ok-place-in-At : goal.see_cut-returns-in_ok-place-in-At
see_cut-returns-in_ok-place-in-At t c =
    position_found c.args.domains.now c.args.cut.now c.in-At.e c.args.axis c.in-Some.field-0 c.in_ok-place-in-At.place c.position.result c.in-At.is c.in-Some.is
    c.in_ok-place-in-At.ensures c.position.ensures

pub see_cut-returns-in_ok-hi-in-Trim : goal.see_cut-returns-in_ok-hi-in-Trim
see_cut-returns-in_ok-hi-in-Trim t c =
    trim_found c.args.domains.now c.args.cut.now c.in-Trim.lo c.in-Trim.hi c.args.axis c.in-Some-axis.axis c.in_ok-lo-in-Trim.lo c.in_ok-hi-in-Trim.hi c.trim.result
    c.in-Trim.is c.in-Some-axis.is c.in_ok-lo-in-Trim.ensures c.in_ok-hi-in-Trim.ensures c.trim.ensures

pub see_cuts-returns-in_err-found : goal.see_cuts-returns-in_err-found
see_cuts-returns-in_err-found t c =
    let p = err_from_is_err_and c.from_residual.result c.from_residual.ensures.1 in
    let here = c.axis_at-axis.ensures ∙ ap (slice_get c.args.axes.now) (c.len.ensures ∙ c.loop-cut.invariant.count) in
    let steps = subst (λ o. StepsEach c.args.domains.now c.cut-item.result o (Err c.in_err-found.field-0.0)) here c.in_err-found.ensures in
    rw (p.1, p.2) (cuts_stop c.args.domains.now c.args.index.now c.args.axes.now c.loop-cut.cut-index c.cut-item.result c.loop-cut.cuts.items c.in_err-found.field-0.0 _
    (omega arith) c.cut-item.is steps c.loop-cut.invariant.so_far)

pub see_cuts-returns-in_default : goal.see_cuts-returns-in_default
see_cuts-returns-in_default t c =
    let here = c.axis_at-axis.ensures ∙ ap (slice_get c.args.axes.now) (c.len.ensures ∙ c.loop-cut.invariant.count) in
    let none = subst (λ r. StepsEach c.args.domains.now c.cut-item.result c.axis_at-axis.result (Ok r)) c.in_default.is c.in_ok-found.ensures in
    let steps = subst (λ o. StepsEach c.args.domains.now c.cut-item.result o (Ok None)) here none in
    cuts_over c.args.domains.now c.args.index.now c.args.axes.now c.loop-cut.cut-index c.cut-item.result c.loop-cut.cuts.items _ (omega arith) c.cut-item.is steps
    c.loop-cut.invariant.so_far

pub see_cuts-loop-cut-preserved : goal.see_cuts-loop-cut-preserved
see_cuts-loop-cut-preserved t c =
    let here = c.axis_at-axis.ensures ∙ ap (slice_get c.args.axes.now) (c.len.ensures ∙ c.loop-cut.invariant.count) in
    let some = subst (λ r. StepsEach c.args.domains.now c.cut-item.result c.axis_at-axis.result (Ok r)) c.in-Some.is c.in_ok-found.ensures in
    let steps = subst (λ o. StepsEach c.args.domains.now c.cut-item.result o (Ok (Some c.in-Some.found))) here some in
    record {
      count = omega (arith, c.in_ok-push.ensures.len, c.loop-cut.invariant.count);
      so_far = rw c.in_ok-push.ensures.items (cuts_turn c.args.domains.now c.args.index.now c.args.axes.now c.loop-cut.cut-index c.cut-item.result c.loop-cut.cuts.items
          c.in-Some.found _ (omega arith) c.cut-item.is steps c.loop-cut.invariant.so_far);
    }
