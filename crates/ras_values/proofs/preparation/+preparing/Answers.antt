use Rattle.std.proofs.Common.{[], ◌∷◌, ◌++◌, Ok, refl, sym, ap, ◌∙◌, arith, w64, to_z, of_z}
use Rattle.std.proofs.lemmas.Int.{to_z-of_z}
use Rattle.std.specs.Prelude.{unsigned_abs}
use Rattle.ras_cells.specs.Cells.{single}
use Rattle.spec_expressions.specs.Tree.{lower, upper, tree_of}
use Rattle.ras_shape.proofs.TreesSeen.{node_Bool, node_Number, node_Iterator, node_Variable, node_Unary, node_Cast, node_Binary, node_Index, node_Part, node_Case}
use Rattle.ras_shape.proofs.TreesSeen.{node_Build, node_Marray, node_Condense, node_Cells, node_Shift, node_Extend, node_Concat, node_Sdom, node_Oid}
use Rattle.ras_shape.specs.Trees.{trees_seen}
use Rattle.ras_values.specs.Places.{before_seen}
use Rattle.ras_values.proofs.PreparedArms.{arms_all, arms_last, arms_more, as_form, choice_given, coordinate_given, front_start, is_given, parts_end, parts_next}
use Rattle.ras_values.proofs.PreparedArms.{placed_end, placed_next, point_given, position_next, positions_end, prepared_axis, prepared_bound, test_given}
use Rattle.ras_values.proofs.PreparedArms.{trim_next, truth_kept}
use Rattle.ras_values.proofs.PreparedForms.{prepared_binary, prepared_cast, prepared_component, prepared_composite, prepared_concat, prepared_condense}
use Rattle.ras_values.proofs.PreparedForms.{prepared_extend}
use Rattle.ras_values.proofs.PreparedForms.{prepared_folded, prepared_index, prepared_iterator, prepared_marray, prepared_null, prepared_number, prepared_oid}
use Rattle.ras_values.proofs.PreparedForms.{prepared_shift, prepared_unary, prepared_unshaped, test_always}
use Rattle.ras_values.proofs.WalkLoops.{take_back}
use Rattle.ras_values.proofs.Written.{offsets_are}
use Rattle.ras_values.proofs.preparation.+preparing.Goals as goal
use Rattle.ras_values.proofs.preparation.+preparing.Goals.{positions-in-At+in_ok-e-in-At, positions-in-Trim}

pub prepared-returns-in-Bool-clause-prepared : goal.prepared-returns-in-Bool-clause-prepared
prepared-returns-in-Bool-clause-prepared g t c =
    is_given (g.A.Arrays.members c.args.row.now) c.args.domains.now c.args.names.now (tree_of c.args.e.now) _ _ c.number.ensures
    (prepared_number (g.A.Arrays.members c.args.row.now) c.args.domains.now c.args.names.now c.args.e.now _ _ (node_Bool c.args.e.now _ c.in-Bool.is)
    (λ d points len p. ap (λ z. Ok (single z)) (ap (λ z. to_z w64 (of_z w64 z)) c.from.ensures ∙ truth_kept c.in-Bool.b)))

pub prepared-returns-in-Number-clause-prepared : goal.prepared-returns-in-Number-clause-prepared
prepared-returns-in-Number-clause-prepared g t c =
    is_given (g.A.Arrays.members c.args.row.now) c.args.domains.now c.args.names.now (tree_of c.args.e.now) _ _ c.number-in-Number.ensures
    (prepared_number (g.A.Arrays.members c.args.row.now) c.args.domains.now c.args.names.now c.args.e.now _ _ (node_Number c.args.e.now _ _ c.in-Number.is)
    (λ d points len p. refl))

pub prepared-returns-in-Iterator-clause-prepared : goal.prepared-returns-in-Iterator-clause-prepared
prepared-returns-in-Iterator-clause-prepared g t c =
    is_given (g.A.Arrays.members c.args.row.now) c.args.domains.now c.args.names.now (tree_of c.args.e.now) _ _ c.boxed.ensures
    (prepared_iterator (g.A.Arrays.members c.args.row.now) c.args.domains.now c.args.names.now c.args.e.now _ (node_Iterator c.args.e.now _ _ c.in-Iterator.is))

pub prepared-returns-in-Variable-clause-prepared : goal.prepared-returns-in-Variable-clause-prepared
prepared-returns-in-Variable-clause-prepared g t c =
    is_given (g.A.Arrays.members c.args.row.now) c.args.domains.now c.args.names.now (tree_of c.args.e.now) _ _ c.null.ensures
    (prepared_null (g.A.Arrays.members c.args.row.now) c.args.domains.now c.args.names.now c.args.e.now _ (node_Variable c.args.e.now _ c.in-Variable.is)
    (λ d points len p. refl))

pub prepared-returns-in_ok-e-in-Unary-clause-prepared : goal.prepared-returns-in_ok-e-in-Unary-clause-prepared
prepared-returns-in_ok-e-in-Unary-clause-prepared g t c =
    is_given (g.A.Arrays.members c.args.row.now) c.args.domains.now c.args.names.now (tree_of c.args.e.now) _ _ c.boxed-in-Unary.ensures
    (prepared_unary (g.A.Arrays.members c.args.row.now) c.args.domains.now c.args.names.now c.args.e.now _ _ _ (node_Unary c.args.e.now _ _ c.in-Unary.is)
    (rw c.get.ensures at c.in_ok-e-in-Unary.ensures.prepared))

pub prepared-returns-in_ok-e-in-Cast-clause-prepared : goal.prepared-returns-in_ok-e-in-Cast-clause-prepared
prepared-returns-in_ok-e-in-Cast-clause-prepared g t c =
    is_given (g.A.Arrays.members c.args.row.now) c.args.domains.now c.args.names.now (tree_of c.args.e.now) _ _ c.boxed-in-Cast.ensures
    (prepared_cast (g.A.Arrays.members c.args.row.now) c.args.domains.now c.args.names.now c.args.e.now _ _ _ (node_Cast c.args.e.now _ _ c.in-Cast.is)
    (rw c.get-in-Cast.ensures at c.in_ok-e-in-Cast.ensures.prepared))

pub prepared-returns-in_ok-b-in-Binary-clause-prepared : goal.prepared-returns-in_ok-b-in-Binary-clause-prepared
prepared-returns-in_ok-b-in-Binary-clause-prepared g t c =
    is_given (g.A.Arrays.members c.args.row.now) c.args.domains.now c.args.names.now (tree_of c.args.e.now) _ _ c.boxed-in-Binary.ensures
    (prepared_binary (g.A.Arrays.members c.args.row.now) c.args.domains.now c.args.names.now c.args.e.now _ _ _ _ _ (node_Binary c.args.e.now _ _ _ c.in-Binary.is)
    (rw c.get-in-Binary.ensures at c.in_ok-a-in-Binary.ensures.prepared)
    (rw (c.get-in-Binary-2.ensures, c.in_ok-a-in-Binary.ensures.same) at c.in_ok-b-in-Binary.ensures.prepared))

pub prepared-returns-in-Coordinate-clause-prepared : goal.prepared-returns-in-Coordinate-clause-prepared
prepared-returns-in-Coordinate-clause-prepared g t c =
    coordinate_given (g.A.Arrays.members c.args.row.now) c.args.domains.now c.args.names.now c.args.e.now _ _ _
    (as_form c.args.e.now _ _ (node_Index c.args.e.now _ _ c.in-Index.is)
    (rw c.in-Coordinate.is at (rw (c.get-in-Index.ensures, c.as_slice.ensures) at c.index_way.ensures))) (rw
    (to_z-of_z w64 c.in-Coordinate.axis (record { sfits = (rw c.in-Coordinate.is at c.index_way.type_inv).1.1.1.1.1.0.1 })) at c.coordinate.ensures)

pub prepared-returns-in-Interval-clause-prepared : goal.prepared-returns-in-Interval-clause-prepared
prepared-returns-in-Interval-clause-prepared g t c =
    is_given (g.A.Arrays.members c.args.row.now) c.args.domains.now c.args.names.now (tree_of c.args.e.now) _ _ c.null-in-Interval.ensures
    (prepared_axis (g.A.Arrays.members c.args.row.now) c.args.domains.now c.args.names.now c.args.e.now _ (node_Index c.args.e.now _ _ c.in-Index.is)
    (rw c.in-Interval.is at (rw (c.get-in-Index.ensures, c.as_slice.ensures) at c.index_way.ensures)))

pub prepared-returns-in_ok-e-in-AtPoint-clause-prepared : goal.prepared-returns-in_ok-e-in-AtPoint-clause-prepared
prepared-returns-in_ok-e-in-AtPoint-clause-prepared g t c =
    point_given (g.A.Arrays.members c.args.row.now) c.args.domains.now c.args.names.now c.args.e.now _ _ _ _ _
    (as_form c.args.e.now _ _ (node_Index c.args.e.now _ _ c.in-Index.is)
    (rw c.in-AtPoint.is at (rw (c.get-in-Index.ensures, c.as_slice.ensures) at c.index_way.ensures)))
    (rw c.get-in-AtPoint.ensures at c.in_ok-within-in-AtPoint.ensures) (rw c.get-in-AtPoint-2.ensures at c.in_ok-e-in-AtPoint.ensures.prepared)
    (rw c.in_ok-e-in-AtPoint.ensures.same at c.at_point.ensures)

pub prepared-returns-in_ok-positions-in-Cells-index_way-clause-prepared : goal.prepared-returns-in_ok-positions-in-Cells-index_way-clause-prepared
prepared-returns-in_ok-positions-in-Cells-index_way-clause-prepared g t c =
    is_given (g.A.Arrays.members c.args.row.now) c.args.domains.now c.args.names.now (tree_of c.args.e.now) _ _ c.boxed-in-Cells-index_way.ensures
    (prepared_index (g.A.Arrays.members c.args.row.now) c.args.domains.now c.args.names.now c.args.e.now _ _ _ _ _
    (as_form c.args.e.now _ _ (node_Index c.args.e.now _ _ c.in-Index.is)
    (rw c.in-Cells-index_way.is at (rw (c.get-in-Index.ensures, c.as_slice.ensures) at c.index_way.ensures)))
    (rw c.get-in-Cells-index_way.ensures at c.in_ok-within-in-Cells-index_way.ensures)
    (rw (c.as_slice-in-Cells-index_way.ensures, c.in_ok-e-in-Cells-index_way.ensures.same) at c.in_ok-positions-in-Cells-index_way.ensures.prepared)
    (rw c.get-in-Cells-index_way-2.ensures at c.in_ok-e-in-Cells-index_way.ensures.prepared))

pub prepared-returns-in_ok-e-in-Component-clause-prepared : goal.prepared-returns-in_ok-e-in-Component-clause-prepared
prepared-returns-in_ok-e-in-Component-clause-prepared g t c =
    is_given (g.A.Arrays.members c.args.row.now) c.args.domains.now c.args.names.now (tree_of c.args.e.now) _ _
    (rw (to_z-of_z w64 c.in-Component.part (record { sfits = (rw c.in-Component.is at c.part_way.type_inv).1.1.1.1.0.1 })) at c.boxed-in-Component.ensures)
    (prepared_component (g.A.Arrays.members c.args.row.now) c.args.domains.now c.args.names.now c.args.e.now _ _ _
    (as_form c.args.e.now _ _ (node_Part c.args.e.now _ _ c.in-Part.is) (rw c.in-Component.is at (rw c.get-in-Part.ensures at c.part_way.ensures)))
    (rw c.get-in-Component.ensures at c.in_ok-e-in-Component.ensures.prepared))

pub prepared-returns-in_ok-lower_bound-in-Lower-clause-prepared : goal.prepared-returns-in_ok-lower_bound-in-Lower-clause-prepared
prepared-returns-in_ok-lower_bound-in-Lower-clause-prepared g t c =
    is_given (g.A.Arrays.members c.args.row.now) c.args.domains.now c.args.names.now (tree_of c.args.e.now) _ _ c.known.ensures
    (prepared_bound (g.A.Arrays.members c.args.row.now) c.args.domains.now c.args.names.now lower c.args.e.now _ _ _ (node_Part c.args.e.now _ _ c.in-Part.is)
    (rw c.in-Lower.is at (rw c.get-in-Part.ensures at c.part_way.ensures)) (rw c.get-in-Lower.ensures at c.in_ok-lower_bound-in-Lower.ensures))

pub prepared-returns-in_ok-upper_bound-in-Upper-clause-prepared : goal.prepared-returns-in_ok-upper_bound-in-Upper-clause-prepared
prepared-returns-in_ok-upper_bound-in-Upper-clause-prepared g t c =
    is_given (g.A.Arrays.members c.args.row.now) c.args.domains.now c.args.names.now (tree_of c.args.e.now) _ _ c.known-in-Upper.ensures
    (prepared_bound (g.A.Arrays.members c.args.row.now) c.args.domains.now c.args.names.now upper c.args.e.now _ _ _ (node_Part c.args.e.now _ _ c.in-Part.is)
    (rw c.in-Upper.is at (rw c.get-in-Part.ensures at c.part_way.ensures)) (rw c.get-in-Upper.ensures at c.in_ok-upper_bound-in-Upper.ensures))

pub prepared-returns-in_ok-other-in-Case-clause-prepared : goal.prepared-returns-in_ok-other-in-Case-clause-prepared
prepared-returns-in_ok-other-in-Case-clause-prepared g t c =
    choice_given (g.A.Arrays.members c.args.row.now) c.args.domains.now c.args.names.now c.args.e.now _ _ _ _ (node_Case c.args.e.now _ _ c.in-Case.is)
    (rw c.get-in-Case.ensures at c.in_ok-other-in-Case.ensures.prepared)
    (rw (c.as_slice-in-Case.ensures, c.in_ok-other-in-Case.ensures.same) at c.choice.ensures.prepared)

pub prepared-returns-in_ok-parts-in-Build-clause-prepared : goal.prepared-returns-in_ok-parts-in-Build-clause-prepared
prepared-returns-in_ok-parts-in-Build-clause-prepared g t c =
    is_given (g.A.Arrays.members c.args.row.now) c.args.domains.now c.args.names.now (tree_of c.args.e.now) _ _ c.boxed-in-Build.ensures
    (prepared_composite (g.A.Arrays.members c.args.row.now) c.args.domains.now c.args.names.now c.args.e.now _ _ (node_Build c.args.e.now _ c.in-Build.is)
    (rw c.as_slice-in-Build.ensures at c.in_ok-parts-in-Build.ensures.prepared))

pub prepared-returns-in_ok-e-in-Marray-clause-prepared : goal.prepared-returns-in_ok-e-in-Marray-clause-prepared
prepared-returns-in_ok-e-in-Marray-clause-prepared g t c =
    is_given (g.A.Arrays.members c.args.row.now) c.args.domains.now c.args.names.now (tree_of c.args.e.now) _ _ c.boxed-in-Marray.ensures
    (prepared_marray (g.A.Arrays.members c.args.row.now) c.args.domains.now c.args.names.now c.args.e.now _ _ _ _ (node_Marray c.args.e.now _ _ _ c.in-Marray.is)
    (rw c.get-in-Marray.ensures at c.in_ok-e-in-Marray.ensures.prepared))

pub prepared-returns-in_ok-e-in-Condense-2-clause-prepared : goal.prepared-returns-in_ok-e-in-Condense-2-clause-prepared
prepared-returns-in_ok-e-in-Condense-2-clause-prepared g t c =
    is_given (g.A.Arrays.members c.args.row.now) c.args.domains.now c.args.names.now (tree_of c.args.e.now) _ _ c.boxed-in-Condense.ensures
    (prepared_condense (g.A.Arrays.members c.args.row.now) c.args.domains.now c.args.names.now c.args.e.now _ _ _ _ _ _ _
    (node_Condense c.args.e.now _ _ _ _ _ c.in-Condense.is) c.in_ok-axes-in-Condense.ensures
    (rw c.in_ok-e-in-Condense.ensures.same at c.in_ok-e-in-Condense-2.ensures.prepared _ (rw c.get-in-Condense.ensures at c.in_ok-e-in-Condense.ensures.prepared)))

pub prepared-returns-in_ok-e-in-Cells-clause-prepared : goal.prepared-returns-in_ok-e-in-Cells-clause-prepared
prepared-returns-in_ok-e-in-Cells-clause-prepared g t c =
    is_given (g.A.Arrays.members c.args.row.now) c.args.domains.now c.args.names.now (tree_of c.args.e.now) _ _ c.boxed-in-Cells.ensures
    (prepared_folded (g.A.Arrays.members c.args.row.now) c.args.domains.now c.args.names.now c.args.e.now _ _ _ _ (node_Cells c.args.e.now _ _ c.in-Cells.is)
    (rw c.get-in-Cells.ensures at c.in_ok-axes-in-Cells.ensures)
    (rw c.get-in-Cells-2.ensures at c.in_ok-e-in-Cells.ensures.prepared))

pub prepared-returns-in_ok-e-in-Shift-clause-prepared : goal.prepared-returns-in_ok-e-in-Shift-clause-prepared
prepared-returns-in_ok-e-in-Shift-clause-prepared g t c =
    is_given (g.A.Arrays.members c.args.row.now) c.args.domains.now c.args.names.now (tree_of c.args.e.now) _ _ c.boxed-in-Shift.ensures
    (prepared_shift (g.A.Arrays.members c.args.row.now) c.args.domains.now c.args.names.now c.args.e.now _ _ _ _ (node_Shift c.args.e.now _ _ c.in-Shift.is)
    ((rw c.as_slice-in-Shift.ensures at c.in_ok-offsets-in-Shift.ensures) ∙ offsets_are c.args.domains.now (trees_seen c.in-Shift.offsets))
    (rw c.get-in-Shift.ensures at c.in_ok-e-in-Shift.ensures.prepared))

pub prepared-returns-in_ok-e-in-Extend-clause-prepared : goal.prepared-returns-in_ok-e-in-Extend-clause-prepared
prepared-returns-in_ok-e-in-Extend-clause-prepared g t c =
    is_given (g.A.Arrays.members c.args.row.now) c.args.domains.now c.args.names.now (tree_of c.args.e.now) _ _ c.boxed-in-Extend.ensures
    (prepared_extend (g.A.Arrays.members c.args.row.now) c.args.domains.now c.args.names.now c.args.e.now _ _ _ _ _ (node_Extend c.args.e.now _ _ c.in-Extend.is)
    (rw c.get-in-Extend.ensures at c.in_ok-axes-in-Extend.ensures) c.zeros-zeros.ensures
    (rw c.get-in-Extend-2.ensures at c.in_ok-e-in-Extend.ensures.prepared))

pub prepared-returns-then-not-branch-clause-prepared : goal.prepared-returns-then-not-branch-clause-prepared
prepared-returns-then-not-branch-clause-prepared g t c =
    is_given (g.A.Arrays.members c.args.row.now) c.args.domains.now c.args.names.now (tree_of c.args.e.now) _ _ c.boxed-then-not-branch.ensures
    (prepared_unshaped (g.A.Arrays.members c.args.row.now) c.args.domains.now c.args.names.now c.args.e.now _ _ (node_Concat c.args.e.now _ _ c.in-Concat.is)
    (rw c.as_slice-in-Concat.ensures at (sym c.in_ok-have_shapes-in-Concat.ensures ∙ c.if-not-branch.true)))

pub prepared-returns-in_ok-parts-in-Concat-clause-prepared : goal.prepared-returns-in_ok-parts-in-Concat-clause-prepared
prepared-returns-in_ok-parts-in-Concat-clause-prepared g t c =
    is_given (g.A.Arrays.members c.args.row.now) c.args.domains.now c.args.names.now (tree_of c.args.e.now) _ _ c.boxed-in-Concat.ensures
    (prepared_concat (g.A.Arrays.members c.args.row.now) c.args.domains.now c.args.names.now c.args.e.now _ _ _ (node_Concat c.args.e.now _ _ c.in-Concat.is)
    (rw c.as_slice-in-Concat.ensures at (sym c.in_ok-have_shapes-in-Concat.ensures ∙ c.if-not-branch.false))
    (rw c.as_slice-in-Concat-2.ensures at c.in_ok-parts-in-Concat.ensures.prepared))

pub prepared-returns-in-Sdom-clause-prepared : goal.prepared-returns-in-Sdom-clause-prepared
prepared-returns-in-Sdom-clause-prepared g t c =
    is_given (g.A.Arrays.members c.args.row.now) c.args.domains.now c.args.names.now (tree_of c.args.e.now) _ _ c.null-in-Sdom.ensures
    (prepared_null (g.A.Arrays.members c.args.row.now) c.args.domains.now c.args.names.now c.args.e.now _ (node_Sdom c.args.e.now _ c.in-Sdom.is)
    (λ d points len p. refl))

pub prepared-returns-in-Oid-clause-prepared : goal.prepared-returns-in-Oid-clause-prepared
prepared-returns-in-Oid-clause-prepared g t c =
    is_given (g.A.Arrays.members c.args.row.now) c.args.domains.now c.args.names.now (tree_of c.args.e.now) _ _ c.oid-in-Oid.ensures
    (prepared_oid (g.A.Arrays.members c.args.row.now) c.args.domains.now c.args.names.now c.args.e.now _ _ (node_Oid c.args.e.now _ c.in-Oid.is) c.oid.ensures)

pub within-returns-clause-prepared : goal.within-returns-clause-prepared
within-returns-clause-prepared g t c =
    rw c.in_ok-enter.ensures.ok at c.prepared-node.ensures.prepared

pub within-returns-clause-same : goal.within-returns-clause-same
within-returns-clause-same g t c =
    c.leave.ensures ∙ take_back _ _ _ (c.prepared-node.ensures.same ∙ c.in_ok-enter.ensures.ok)

pub tested-returns-in-None-clause-prepared : goal.tested-returns-in-None-clause-prepared
tested-returns-in-None-clause-prepared g t c =
    λ t h. rw c.in-None.is (test_always _ _ _ t _ h)

pub tested-returns-in_ok-other-in-Some-clause-prepared : goal.tested-returns-in_ok-other-in-Some-clause-prepared
tested-returns-in_ok-other-in-Some-clause-prepared g t c =
    rw c.in-Some.is (test_given (g.A.Arrays.members c.args.row.now) c.args.domains.now (c.args.names.now ++ c.args.x.now ∷ []) _ _ _ _ c.boxed.result
    (rw c.get.ensures at c.in_ok-condition-in-Some.ensures.prepared) c.in_ok-other-in-Some.ensures c.boxed.ensures)

pub choice-loop-left-init : goal.choice-loop-left-init
choice-loop-left-init g t c =
    record {
      within = omega arith;
      from = arms_last
          (g.A.Arrays.members c.args.row.now) c.args.domains.now c.args.names.now c.args.arms.now c.args.other;
      same = refl;
    }

pub choice-loop-left-preserved : goal.choice-loop-left-preserved
choice-loop-left-preserved g t c =
    record {
      within = omega arith;
      from = rw c.in_ok-whole.ensures (arms_more
          (g.A.Arrays.members c.args.row.now) c.args.domains.now c.args.names.now c.args.arms.now c.loop-left.left _ c.index-arms-left.result _ _ _ _ (omega arith)
          (omega arith) c.index-arms-left.is
          (rw c.loop-left.invariant.same at c.in_ok-condition.ensures.prepared)
          (rw (c.in_ok-condition.ensures.same, c.loop-left.invariant.same) at c.in_ok-e.ensures.prepared) c.loop-left.invariant.from);
      same = c.in_ok-e.ensures.same ∙ c.in_ok-condition.ensures.same ∙ c.loop-left.invariant.same;
    }

pub choice-returns-clause-prepared : goal.choice-returns-clause-prepared
choice-returns-clause-prepared g t c =
    arms_all (g.A.Arrays.members c.args.row.now) c.args.domains.now c.args.names.now c.args.arms.now c.loop-left.left c.args.other c.loop-left.whole
    (omega arith) c.loop-left.invariant.from

pub parts_of-loop-part-init : goal.parts_of-loop-part-init
parts_of-loop-part-init g t c =
    record { front = front_start _ c.new-nodes.result c.new-nodes.ensures; same = refl }

pub parts_of-loop-part-preserved : goal.parts_of-loop-part-preserved
parts_of-loop-part-preserved g t c =
    record {
      front = parts_next (g.A.Arrays.members c.args.row.now) c.args.domains.now c.args.names.now c.args.parts.now c.loop-part.part-index c.part-item.result
          c.into_inner.result c.loop-part.nodes _ (omega arith) c.part-item.is
          (rw (← c.into_inner.ensures, c.loop-part.invariant.same) at c.in_ok-node.ensures.prepared) c.in_ok-push.ensures c.loop-part.invariant.front;
      same = c.in_ok-node.ensures.same ∙ c.loop-part.invariant.same;
    }

pub parts_of-returns-clause-prepared : goal.parts_of-returns-clause-prepared
parts_of-returns-clause-prepared g t c =
    parts_end (g.A.Arrays.members c.args.row.now) c.args.domains.now c.args.names.now c.args.parts.now c.loop-part.part-index c.loop-part.nodes
    (omega arith) c.loop-part.invariant.front

pub positions-loop-axis-init : goal.positions-loop-axis-init
positions-loop-axis-init g t c =
    record { front = front_start _ c.new-positions.result c.new-positions.ensures; same = refl }

pub positions-loop-axis-preserved : goal.positions-loop-axis-preserved
positions-loop-axis-preserved g t c =
    elim c.match-axis.branch [
      | positions-in-At+in_ok-e-in-At w ↦ record {
        front = position_next (g.A.Arrays.members c.args.row.now) c.args.domains.now c.args.names.now c.args.axes.now c.loop-axis.axis-index c.axis-item.result
            w.in-At.e w.into_inner.result c.match-axis.position c.loop-axis.positions _ (omega arith)
            c.axis-item.is w.in-At.is w.position-is (rw
            (← w.into_inner.ensures, c.loop-axis.invariant.same) at w.in_ok-e-in-At.ensures.prepared) c.in_ok-push.ensures c.loop-axis.invariant.front;
        same = w.names-is ∙ w.in_ok-e-in-At.ensures.same ∙ c.loop-axis.invariant.same;
      }
      | positions-in-Trim w ↦ record {
        front = trim_next (g.A.Arrays.members c.args.row.now) c.args.domains.now c.args.names.now c.args.axes.now c.loop-axis.axis-index c.axis-item.result _ _
            c.match-axis.position c.loop-axis.positions _ (omega arith)
            c.axis-item.is w.in-Trim.is w.position-is c.in_ok-push.ensures c.loop-axis.invariant.front;
        same = w.names-is ∙ c.loop-axis.invariant.same;
      }
    ]

pub positions-returns-clause-prepared : goal.positions-returns-clause-prepared
positions-returns-clause-prepared g t c =
    positions_end (g.A.Arrays.members c.args.row.now) c.args.domains.now c.args.names.now c.args.axes.now c.loop-axis.axis-index c.loop-axis.positions
    (omega arith) c.loop-axis.invariant.front

pub placed-loop-part-init : goal.placed-loop-part-init
placed-loop-part-init g t c =
    record { front = front_start _ c.new-all.result c.new-all.ensures; same = refl }

pub placed-loop-part-preserved : goal.placed-loop-part-preserved
placed-loop-part-preserved g t c =
    record {
      front = placed_next (g.A.Arrays.members c.args.row.now) c.args.domains.now c.args.names.now
          (unsigned_abs c.args.along.now) c.args.parts.now c.loop-part.part-index c.part-item.result _ (before_seen c.loop-part.before) _ c.loop-part.all _
          (omega arith) c.part-item.is
          (rw (← c.into_inner-e.ensures, c.loop-part.invariant.same) at c.in_ok-e.ensures.prepared)
          c.in_ok-own.ensures c.in_ok-place.ensures c.in_ok-followed.ensures c.in_ok-push.ensures c.loop-part.invariant.front;
      same = c.in_ok-e.ensures.same ∙ c.loop-part.invariant.same;
    }

pub placed-returns-clause-prepared : goal.placed-returns-clause-prepared
placed-returns-clause-prepared g t c =
    placed_end (g.A.Arrays.members c.args.row.now) c.args.domains.now c.args.names.now (unsigned_abs c.args.along.now) c.args.parts.now c.loop-part.part-index
    (before_seen c.loop-part.before) c.loop-part.all (omega arith) c.loop-part.invariant.front
