use Rattle.std.proofs.Common.{◌++◌, ◌∷◌, [], map, refl, sym, ap, ◌∙◌, Some, None}
use Rattle.std.specs.Prelude.{neg_ℤ, option_map, unsigned_abs}
use Rattle.std.proofs.lemmas.List.{append-nil}
use Rattle.ras_domain.specs.Boxes.{shifted_by}
use Rattle.spec_expressions.specs.Check.{tree_of_axes}
use Rattle.spec_expressions.specs.Eval.{axes_in, box_in, boxes_in, offsets_in, written_in}
use Rattle.spec_expressions.specs.Reach.{condition_reach, pairs_reach, parts_reach, positions_reach, reach_of, trees_reach}
use Rattle.spec_expressions.specs.Shape.{offsets_of, placed_parts, shape_of, shapes_of, written_of}
use Rattle.spec_expressions.specs.Tree.{truth, number, iterator, variable, unary, cast, binary, index_form, part_form, choice, composite, marray, condense, folded, shift, extend}
use Rattle.spec_expressions.specs.Tree.{concat, domain_of, oid, condition_of, no_axes, tree_of}
use Rattle.ras_shape.specs.Trees.{axis_seen, domain_looked_at, pairs_seen, trees_seen}
use Rattle.ras_shape.proofs.TreesSeen.{node_Bool, node_Number, node_Iterator, node_Variable, node_Unary, node_Cast, node_Binary, node_Index, node_Part, node_Case, node_Build}
use Rattle.ras_shape.proofs.TreesSeen.{node_Marray, node_Condense, node_Cells, node_Shift, node_Extend, node_Concat, node_Sdom, node_Oid}
use Rattle.ras_reach.specs.declared.forms.PartForm.TheVariants.{Component, Lower, Upper}
use Rattle.ras_reach.specs.Reached.{boxes_reached}
use Rattle.ras_reach.specs.Variables.{variable_boxes}
use Rattle.ras_shape.proofs.AxesSeen.{axis_at, axis_trim}
use Rattle.ras_reach.proofs.WalkForms.{adds_same, at_both, at_nothing, at_one, extend_in, index_in, index_nowhere, part_as}
use Rattle.ras_reach.proofs.walk.+walk.Goals as goal

-- ---- forms that read nothing

pub reach_into-returns-in-Bool : goal.reach_into-returns-in-Bool
reach_into-returns-in-Bool t c =
    at_nothing c.args.domains.now (variable_boxes c.args.variables.now) c.args.around.now c.args.e.now (truth c.in-Bool.field-0) (boxes_reached c.args.out.now.items)
    (node_Bool c.args.e.now c.in-Bool.field-0 c.in-Bool.is) refl

pub reach_into-returns-in-Number : goal.reach_into-returns-in-Number
reach_into-returns-in-Number t c =
    at_nothing c.args.domains.now (variable_boxes c.args.variables.now) c.args.around.now c.args.e.now (number c.in-Number.value c.in-Number.atom) (boxes_reached c.args.out.now.items)
    (node_Number c.args.e.now c.in-Number.value c.in-Number.atom c.in-Number.is) refl

pub reach_into-returns-in-Variable : goal.reach_into-returns-in-Variable
reach_into-returns-in-Variable t c =
    at_nothing c.args.domains.now (variable_boxes c.args.variables.now) c.args.around.now c.args.e.now (variable c.in-Variable.field-0) (boxes_reached c.args.out.now.items)
    (node_Variable c.args.e.now c.in-Variable.field-0 c.in-Variable.is) refl

pub reach_into-returns-in-Sdom : goal.reach_into-returns-in-Sdom
reach_into-returns-in-Sdom t c =
    at_nothing c.args.domains.now (variable_boxes c.args.variables.now) c.args.around.now c.args.e.now (domain_of (tree_of c.in-Sdom.field-0)) (boxes_reached c.args.out.now.items)
    (node_Sdom c.args.e.now c.in-Sdom.field-0 c.in-Sdom.is) refl

pub reach_into-returns-in-Oid : goal.reach_into-returns-in-Oid
reach_into-returns-in-Oid t c =
    at_nothing c.args.domains.now (variable_boxes c.args.variables.now) c.args.around.now c.args.e.now (oid c.in-Oid.field-0.name) (boxes_reached c.args.out.now.items)
    (node_Oid c.args.e.now c.in-Oid.field-0 c.in-Oid.is) refl

-- ---- forms of one part

pub reach_into-returns-in-Iterator : goal.reach_into-returns-in-Iterator
reach_into-returns-in-Iterator t c =
    at_one c.args.domains.now (variable_boxes c.args.variables.now) c.args.around.now c.args.e.now (iterator c.in-Iterator.place) ((c.in-Iterator.place, c.args.around.now) ∷ [])
    (boxes_reached c.args.out.now.items) (boxes_reached c.push_box.new.out.items) c.push_box.result
    (node_Iterator c.args.e.now c.in-Iterator.name c.in-Iterator.place c.in-Iterator.is) refl c.push_box.ensures

pub reach_into-returns-in-Unary : goal.reach_into-returns-in-Unary
reach_into-returns-in-Unary t c =
    at_one c.args.domains.now (variable_boxes c.args.variables.now) c.args.around.now c.args.e.now (unary c.in-Unary.op (tree_of c.in-Unary.e))
    (reach_of c.args.domains.now (variable_boxes c.args.variables.now) (tree_of c.in-Unary.e) c.args.around.now) (boxes_reached c.args.out.now.items)
    (boxes_reached c.reach_into.new.out.items) c.reach_into.result (node_Unary c.args.e.now c.in-Unary.op c.in-Unary.e c.in-Unary.is) refl
    (rw c.get.ensures at c.reach_into.ensures)

pub reach_into-returns-in-Cast : goal.reach_into-returns-in-Cast
reach_into-returns-in-Cast t c =
    at_one c.args.domains.now (variable_boxes c.args.variables.now) c.args.around.now c.args.e.now (cast c.in-Cast.to (tree_of c.in-Cast.e))
    (reach_of c.args.domains.now (variable_boxes c.args.variables.now) (tree_of c.in-Cast.e) c.args.around.now) (boxes_reached c.args.out.now.items)
    (boxes_reached c.reach_into-in-Cast.new.out.items) c.reach_into-in-Cast.result (node_Cast c.args.e.now c.in-Cast.to c.in-Cast.e c.in-Cast.is) refl
    (rw c.get-in-Cast.ensures at c.reach_into-in-Cast.ensures)

pub reach_into-returns-in-Build : goal.reach_into-returns-in-Build
reach_into-returns-in-Build t c =
    at_one c.args.domains.now (variable_boxes c.args.variables.now) c.args.around.now c.args.e.now (composite (trees_seen c.in-Build.parts))
    (trees_reach c.args.domains.now (variable_boxes c.args.variables.now) (trees_seen c.in-Build.parts) c.args.around.now) (boxes_reached c.args.out.now.items)
    (boxes_reached c.reach_each.new.out.items) c.reach_each.result (node_Build c.args.e.now c.in-Build.parts c.in-Build.is) refl
    (rw c.as_slice-in-Build.ensures at c.reach_each.ensures)

pub reach_into-returns-in_ok-inner-in-Marray : goal.reach_into-returns-in_ok-inner-in-Marray
reach_into-returns-in_ok-inner-in-Marray t c =
    at_one c.args.domains.now (variable_boxes c.args.variables.now) c.args.around.now c.args.e.now
    (marray c.in-Marray.x.name (domain_looked_at c.in-Marray.domain) (tree_of c.in-Marray.e))
    (reach_of c.args.domains.now ((c.in-Marray.x.name, c.args.around.now) ∷ variable_boxes c.args.variables.now) (tree_of c.in-Marray.e) [])
    (boxes_reached c.args.out.now.items) (boxes_reached c.reach_into-in-Marray.new.out.items) c.reach_into-in-Marray.result
    (node_Marray c.args.e.now c.in-Marray.x c.in-Marray.domain c.in-Marray.e c.in-Marray.is) refl
    (rw (c.get-in-Marray.ensures, c.deref-in-Marray.ensures.value, c.in_ok-inner-in-Marray.ensures) at c.reach_into-in-Marray.ensures)

pub reach_into-returns-in_ok-axes-in-Cells : goal.reach_into-returns-in_ok-axes-in-Cells
reach_into-returns-in_ok-axes-in-Cells t c =
    at_one c.args.domains.now (variable_boxes c.args.variables.now) c.args.around.now c.args.e.now (folded c.in-Cells.f (tree_of c.in-Cells.e))
    (reach_of c.args.domains.now (variable_boxes c.args.variables.now) (tree_of c.in-Cells.e) (box_in (shape_of c.args.domains.now (tree_of c.in-Cells.e))))
    (boxes_reached c.args.out.now.items) (boxes_reached c.reach_into-in-Cells.new.out.items) c.reach_into-in-Cells.result
    (node_Cells c.args.e.now c.in-Cells.f c.in-Cells.e c.in-Cells.is) refl
    (rw (c.get-in-Cells-2.ensures, c.deref-in-Cells.ensures.value, c.in_ok-axes-in-Cells.ensures, c.get-in-Cells.ensures) at c.reach_into-in-Cells.ensures)

pub reach_into-returns-in_ok-axes-in-Shift : goal.reach_into-returns-in_ok-axes-in-Shift
reach_into-returns-in_ok-axes-in-Shift t c =
    at_one c.args.domains.now (variable_boxes c.args.variables.now) c.args.around.now c.args.e.now (shift (tree_of c.in-Shift.e) (trees_seen c.in-Shift.offsets))
    (reach_of c.args.domains.now (variable_boxes c.args.variables.now) (tree_of c.in-Shift.e)
    (shifted_by (map neg_ℤ (offsets_in (offsets_of c.args.domains.now (trees_seen c.in-Shift.offsets)))) c.args.around.now))
    (boxes_reached c.args.out.now.items) (boxes_reached c.reach_into-in-Shift.new.out.items) c.reach_into-in-Shift.result
    (node_Shift c.args.e.now c.in-Shift.e c.in-Shift.offsets c.in-Shift.is) refl
    (rw (c.get-in-Shift.ensures, c.deref-in-Shift-2.ensures.value, c.in_ok-axes-in-Shift.ensures, c.deref-in-Shift.ensures.value, c.in_ok-values-in-Shift.ensures, c.as_slice-in-Shift.ensures)
    at c.reach_into-in-Shift.ensures)

pub reach_into-returns-in_ok-places-in-Concat : goal.reach_into-returns-in_ok-places-in-Concat
reach_into-returns-in_ok-places-in-Concat t c =
    at_one c.args.domains.now (variable_boxes c.args.variables.now) c.args.around.now c.args.e.now (concat (trees_seen c.in-Concat.parts) c.in-Concat.along)
    (parts_reach c.args.domains.now (variable_boxes c.args.variables.now) (trees_seen c.in-Concat.parts) (boxes_in (shapes_of c.args.domains.now (trees_seen c.in-Concat.parts)))
    (placed_parts (unsigned_abs c.in-Concat.along) (boxes_in (shapes_of c.args.domains.now (trees_seen c.in-Concat.parts)))) c.args.around.now)
    (boxes_reached c.args.out.now.items) (boxes_reached c.reach_parts.new.out.items) c.reach_parts.result
    (node_Concat c.args.e.now c.in-Concat.parts c.in-Concat.along c.in-Concat.is) refl
    (rw (
      c.as_slice-in-Concat-2.ensures,
      c.deref-in-Concat-2.ensures.value,
      c.deref-in-Concat-3.ensures.value,
      c.in_ok-places-in-Concat.ensures,
      c.deref-in-Concat.ensures.value,
      c.in_ok-owns-in-Concat.ensures,
      c.as_slice-in-Concat.ensures,
      c.axis_number.ensures,
    ) at c.reach_parts.ensures)

-- ---- forms of two parts

pub reach_into-returns-in_ok-reach_into-in-Binary : goal.reach_into-returns-in_ok-reach_into-in-Binary
reach_into-returns-in_ok-reach_into-in-Binary t c =
    at_both c.args.domains.now (variable_boxes c.args.variables.now) c.args.around.now c.args.e.now (binary c.in-Binary.op (tree_of c.in-Binary.a) (tree_of c.in-Binary.b))
    (reach_of c.args.domains.now (variable_boxes c.args.variables.now) (tree_of c.in-Binary.a) c.args.around.now)
    (reach_of c.args.domains.now (variable_boxes c.args.variables.now) (tree_of c.in-Binary.b) c.args.around.now)
    (boxes_reached c.args.out.now.items) (boxes_reached c.reach_into-in-Binary.new.out.items) (boxes_reached c.reach_into-in-Binary-2.new.out.items) c.reach_into-in-Binary-2.result
    (node_Binary c.args.e.now c.in-Binary.op c.in-Binary.a c.in-Binary.b c.in-Binary.is) refl
    (rw c.get-in-Binary.ensures at c.in_ok-reach_into-in-Binary.ensures) (rw c.get-in-Binary-2.ensures at c.reach_into-in-Binary-2.ensures)

pub reach_into-returns-in_ok-reach_pairs-in-Case : goal.reach_into-returns-in_ok-reach_pairs-in-Case
reach_into-returns-in_ok-reach_pairs-in-Case t c =
    at_both c.args.domains.now (variable_boxes c.args.variables.now) c.args.around.now c.args.e.now (choice (pairs_seen c.in-Case.arms) (tree_of c.in-Case.other))
    (pairs_reach c.args.domains.now (variable_boxes c.args.variables.now) (pairs_seen c.in-Case.arms) c.args.around.now)
    (reach_of c.args.domains.now (variable_boxes c.args.variables.now) (tree_of c.in-Case.other) c.args.around.now)
    (boxes_reached c.args.out.now.items) (boxes_reached c.reach_pairs.new.out.items) (boxes_reached c.reach_into-in-Case.new.out.items) c.reach_into-in-Case.result
    (node_Case c.args.e.now c.in-Case.arms c.in-Case.other c.in-Case.is) refl
    (rw c.as_slice.ensures at c.in_ok-reach_pairs-in-Case.ensures) (rw c.get-in-Case.ensures at c.reach_into-in-Case.ensures)

pub reach_into-returns-in_ok-reach_condition-in-Condense : goal.reach_into-returns-in_ok-reach_condition-in-Condense
reach_into-returns-in_ok-reach_condition-in-Condense t c =
    let met = axes_in (written_in (written_of c.args.domains.now (domain_looked_at c.in-Condense.domain))) in
    let within = rw (c.deref-in-Condense.ensures.value, c.in_ok-axes-in-Condense.ensures) at c.in_ok-inner-in-Condense.ensures in
    at_both c.args.domains.now (variable_boxes c.args.variables.now) c.args.around.now c.args.e.now
    (condense c.in-Condense.op c.in-Condense.x.name (domain_looked_at c.in-Condense.domain) (condition_of (option_map tree_of c.in-Condense.cond)) (tree_of c.in-Condense.e))
    (condition_reach c.args.domains.now ((c.in-Condense.x.name, met) ∷ variable_boxes c.args.variables.now) (condition_of (option_map tree_of c.in-Condense.cond)))
    (reach_of c.args.domains.now ((c.in-Condense.x.name, met) ∷ variable_boxes c.args.variables.now) (tree_of c.in-Condense.e) [])
    (boxes_reached c.args.out.now.items) (boxes_reached c.reach_condition.new.out.items) (boxes_reached c.reach_into-in-Condense.new.out.items) c.reach_into-in-Condense.result
    (node_Condense c.args.e.now c.in-Condense.op c.in-Condense.x c.in-Condense.domain c.in-Condense.cond c.in-Condense.e c.in-Condense.is) refl
    (rw (c.deref-in-Condense-2.ensures.value, within) at c.in_ok-reach_condition-in-Condense.ensures)
    (rw (c.get-in-Condense.ensures, c.deref-in-Condense-3.ensures.value, within) at c.reach_into-in-Condense.ensures)

-- ---- indexes and parts

pub reach_into-returns-in_ok-reach_into-in-Some : goal.reach_into-returns-in_ok-reach_into-in-Some
reach_into-returns-in_ok-reach_into-in-Some t c =
    at_both c.args.domains.now (variable_boxes c.args.variables.now) c.args.around.now c.args.e.now (index_form (tree_of c.in-Index.whole) (tree_of_axes c.in-Index.axes))
    (reach_of c.args.domains.now (variable_boxes c.args.variables.now) (tree_of c.in-Index.whole) c.in-Some.met.items)
    (positions_reach c.args.domains.now (variable_boxes c.args.variables.now) (tree_of_axes c.in-Index.axes))
    (boxes_reached c.args.out.now.items) (boxes_reached c.reach_into-in-Some.new.out.items) (boxes_reached c.reach_positions.new.out.items) c.reach_positions.result
    (node_Index c.args.e.now c.in-Index.whole c.in-Index.axes c.in-Index.is)
    (index_in c.args.domains.now (variable_boxes c.args.variables.now) c.args.around.now (tree_of c.in-Index.whole) (tree_of_axes c.in-Index.axes) c.in-Some.met.items
    (rw (c.in-Some.is, c.index_form-form.ensures, c.get-in-Index.ensures, c.get-in-Index-2.ensures, c.as_slice-axes.ensures) at c.in_ok-met-in-Index.ensures))
    (rw (c.get-in-Some.ensures, c.deref.ensures.value) at c.in_ok-reach_into-in-Some.ensures) (rw c.as_slice-axes.ensures at c.reach_positions.ensures)

pub reach_into-returns-in-None : goal.reach_into-returns-in-None
reach_into-returns-in-None t c =
    at_one c.args.domains.now (variable_boxes c.args.variables.now) c.args.around.now c.args.e.now (index_form (tree_of c.in-Index.whole) (tree_of_axes c.in-Index.axes))
    (positions_reach c.args.domains.now (variable_boxes c.args.variables.now) (tree_of_axes c.in-Index.axes))
    (boxes_reached c.args.out.now.items) (boxes_reached c.reach_positions-in-None.new.out.items) c.reach_positions-in-None.result
    (node_Index c.args.e.now c.in-Index.whole c.in-Index.axes c.in-Index.is)
    (index_nowhere c.args.domains.now (variable_boxes c.args.variables.now) c.args.around.now (tree_of c.in-Index.whole) (tree_of_axes c.in-Index.axes)
    (rw (c.in-None.is, c.index_form-form.ensures, c.get-in-Index.ensures, c.get-in-Index-2.ensures, c.as_slice-axes.ensures) at c.in_ok-met-in-Index.ensures))
    (rw c.as_slice-axes.ensures at c.reach_positions-in-None.ensures)

pub reach_into-returns-in-Component : goal.reach_into-returns-in-Component
reach_into-returns-in-Component t c =
    at_one c.args.domains.now (variable_boxes c.args.variables.now) c.args.around.now c.args.e.now (part_form (tree_of c.in-Part.whole) c.in-Part.part)
    (reach_of c.args.domains.now (variable_boxes c.args.variables.now) (tree_of c.in-Part.whole) c.args.around.now)
    (boxes_reached c.args.out.now.items) (boxes_reached c.reach_into-in-Component.new.out.items) c.reach_into-in-Component.result
    (node_Part c.args.e.now c.in-Part.whole c.in-Part.part c.in-Part.is)
    (part_as c.args.domains.now (variable_boxes c.args.variables.now) c.args.around.now (tree_of c.in-Part.whole) c.in-Part.part Component
    (sym (rw c.get-in-Part.ensures at c.part_form.ensures) ∙ c.in-Component.is))
    (rw c.get-in-Component.ensures at c.reach_into-in-Component.ensures)

pub reach_into-returns-in-Lower : goal.reach_into-returns-in-Lower
reach_into-returns-in-Lower t c =
    at_nothing c.args.domains.now (variable_boxes c.args.variables.now) c.args.around.now c.args.e.now (part_form (tree_of c.in-Part.whole) c.in-Part.part)
    (boxes_reached c.args.out.now.items) (node_Part c.args.e.now c.in-Part.whole c.in-Part.part c.in-Part.is)
    (part_as c.args.domains.now (variable_boxes c.args.variables.now) c.args.around.now (tree_of c.in-Part.whole) c.in-Part.part Lower
    (sym (rw c.get-in-Part.ensures at c.part_form.ensures) ∙ c.in-Lower.is))

pub reach_into-returns-in-Upper : goal.reach_into-returns-in-Upper
reach_into-returns-in-Upper t c =
    at_nothing c.args.domains.now (variable_boxes c.args.variables.now) c.args.around.now c.args.e.now (part_form (tree_of c.in-Part.whole) c.in-Part.part)
    (boxes_reached c.args.out.now.items) (node_Part c.args.e.now c.in-Part.whole c.in-Part.part c.in-Part.is)
    (part_as c.args.domains.now (variable_boxes c.args.variables.now) c.args.around.now (tree_of c.in-Part.whole) c.in-Part.part Upper
    (sym (rw c.get-in-Part.ensures at c.part_form.ensures) ∙ c.in-Upper.is))

-- ---- extended arrays

pub reach_into-returns-in-Some-2 : goal.reach_into-returns-in-Some-2
reach_into-returns-in-Some-2 t c =
    at_one c.args.domains.now (variable_boxes c.args.variables.now) c.args.around.now c.args.e.now (extend (tree_of c.in-Extend.e) (domain_looked_at c.in-Extend.domain))
    (reach_of c.args.domains.now (variable_boxes c.args.variables.now) (tree_of c.in-Extend.e) c.in-Some-2.met.items)
    (boxes_reached c.args.out.now.items) (boxes_reached c.reach_into-in-Some-2.new.out.items) c.reach_into-in-Some-2.result
    (node_Extend c.args.e.now c.in-Extend.e c.in-Extend.domain c.in-Extend.is)
    (extend_in c.args.domains.now (variable_boxes c.args.variables.now) c.args.around.now (tree_of c.in-Extend.e) (domain_looked_at c.in-Extend.domain) (Some c.in-Some-2.met.items)
    (rw (c.in-Some-2.is, c.get-in-Extend.ensures) at c.in_ok-met-in-Extend.ensures))
    (rw (c.get-in-Some-2.ensures, c.deref-in-Some-2.ensures.value) at c.reach_into-in-Some-2.ensures)

pub reach_into-returns-in-None-2 : goal.reach_into-returns-in-None-2
reach_into-returns-in-None-2 t c =
    at_nothing c.args.domains.now (variable_boxes c.args.variables.now) c.args.around.now c.args.e.now (extend (tree_of c.in-Extend.e) (domain_looked_at c.in-Extend.domain))
    (boxes_reached c.args.out.now.items) (node_Extend c.args.e.now c.in-Extend.e c.in-Extend.domain c.in-Extend.is)
    (extend_in c.args.domains.now (variable_boxes c.args.variables.now) c.args.around.now (tree_of c.in-Extend.e) (domain_looked_at c.in-Extend.domain) None
    (rw (c.in-None-2.is, c.get-in-Extend.ensures) at c.in_ok-met-in-Extend.ensures))

-- ---- conditions and positions

pub reach_condition-returns-in-Some : goal.reach_condition-returns-in-Some
reach_condition-returns-in-Some t c = rw c.in-Some.is (rw c.get.ensures at c.reach_into.ensures)

pub reach_condition-returns-in-None : goal.reach_condition-returns-in-None
reach_condition-returns-in-None t c = rw c.in-None.is (sym (append-nil (boxes_reached c.args.out.now.items)))

pub reach_position-returns-in-At : goal.reach_position-returns-in-At
reach_position-returns-in-At t c =
    adds_same (boxes_reached c.args.out.now.items) (boxes_reached c.reach_into.new.out.items) (reach_of c.args.domains.now (variable_boxes c.args.variables.now) (tree_of c.in-At.e) [])
    (positions_reach c.args.domains.now (variable_boxes c.args.variables.now) (axis_seen c.args.cut.now no_axes)) c.reach_into.result
    (sym (ap (positions_reach c.args.domains.now (variable_boxes c.args.variables.now)) (axis_at c.args.cut.now c.in-At.e no_axes c.in-At.is)
    ∙ append-nil (reach_of c.args.domains.now (variable_boxes c.args.variables.now) (tree_of c.in-At.e) [])))
    c.reach_into.ensures

pub reach_position-returns-in-Trim : goal.reach_position-returns-in-Trim
reach_position-returns-in-Trim t c =
    sym (append-nil (boxes_reached c.args.out.now.items))
    ∙ ap (λ reached. boxes_reached c.args.out.now.items ++ reached)
    (sym (ap (positions_reach c.args.domains.now (variable_boxes c.args.variables.now)) (axis_trim c.args.cut.now c.in-Trim.field-0 c.in-Trim.field-1 no_axes c.in-Trim.is)))
