-- What an index and a part come to, from what the code finds of their operands.
use Rattle.std.proofs.Common.{◌≡◌, List, Option, Result, Ok, Err, sym, ap, ◌∙◌}
use Rattle.std.specs.Prelude.{IfOk}
use Rattle.ras_domain.specs.declared.region.Interval.{Interval}
use Rattle.ras_syntax.specs.declared.expr.Part.{Part}
use Rattle.ras_syntax.specs.declared.typed.TypedAxis.{TypedAxis}
use Rattle.ras_syntax.specs.declared.typed.TypedExpr.{TypedExpr, out-TypedExpr}
use Rattle.ras_syntax.specs.declared.typed.TypedForm.TheVariants as typed
use Rattle.spec_expressions.specs.Check.{tree_of_axes}
use Rattle.spec_expressions.specs.Eval.{box_in}
use Rattle.spec_expressions.specs.Reach.{Boxes, number_bound}
use Rattle.spec_expressions.specs.Shape.{Bound, Box, shape_of, static_of}
use Rattle.spec_expressions.specs.Tree.{tree_of}
use Rattle.ras_shape.specs.Ways.{is_axis_of_domain}
use Rattle.ras_shape.proofs.TreesSeen.{node_Index, node_Part}
use Rattle.ras_reach.specs.declared.forms.PartForm.{PartForm}
use Rattle.ras_reach.specs.Forms.{IndexSeen, index_told, part_told}
use Rattle.ras_reach.specs.Numbers.{index_bound_of, part_bound_of}
use Rattle.ras_reach.specs.Statics.{part_value_of}
use Rattle.ras_reach.proofs.NumbersSeen.{index_bounded, part_bounded}
use Rattle.ras_reach.proofs.StaticsSeen.{part_static}

-- a value that is one thing is another one that equals it
if_ok_same : {A E : Type 0} (r : Result A E) (x y : A) → x ≡ y → IfOk r (λ v. v ≡ x) → IfOk r (λ v. v ≡ y)
if_ok_same (Ok v) x y same is = is ∙ same
if_ok_same (Err error) x y same is = tt

pub value_of_part : (domains : List Box) (x whole : TypedExpr) (part : Part) (one other : TypedExpr) (form : PartForm) {E : Type 0} (r : Result Bound E)
    → (out-TypedExpr x).form ≡ typed.Part whole part → one ≡ whole → other ≡ whole
    → form ≡ part_told part (is_axis_of_domain (tree_of one)) → IfOk r (λ value. value ≡ part_value_of form (box_in (shape_of domains (tree_of other))))
    → IfOk r (λ value. value ≡ static_of domains (tree_of x))
value_of_part domains x whole part one other form r is a b told found =
    if_ok_same r (part_value_of form (box_in (shape_of domains (tree_of other)))) (static_of domains (tree_of x))
    (ap (λ (e : TypedExpr). part_value_of form (box_in (shape_of domains (tree_of e)))) b
    ∙ ap (λ f. part_value_of f (box_in (shape_of domains (tree_of whole)))) (told ∙ ap (λ (e : TypedExpr). part_told part (is_axis_of_domain (tree_of e))) a)
    ∙ sym (part_static domains (tree_of whole) part) ∙ sym (ap (static_of domains) (node_Part x whole part is))) found

pub bound_of_index : (domains : List Box) (boxes : Boxes) (x whole : TypedExpr) (axes : List TypedAxis) (one : TypedExpr) (others : List TypedAxis) (seen : IndexSeen) (bound : Option Interval)
    → (out-TypedExpr x).form ≡ typed.Index whole axes → one ≡ whole → others ≡ axes
    → seen ≡ index_told (tree_of one) (tree_of_axes others) → bound ≡ index_bound_of boxes (out-TypedExpr x).kind seen
    → bound ≡ number_bound domains boxes (tree_of x)
bound_of_index domains boxes x whole axes one others seen bound is a b told found =
    found
    ∙ ap (index_bound_of boxes (out-TypedExpr x).kind)
    (told ∙ ap (λ (e : TypedExpr). index_told (tree_of e) (tree_of_axes others)) a ∙ ap (λ (xs : List TypedAxis). index_told (tree_of whole) (tree_of_axes xs)) b)
    ∙ sym (index_bounded domains boxes (out-TypedExpr x).kind (tree_of whole) (tree_of_axes axes))
    ∙ sym (ap (number_bound domains boxes) (node_Index x whole axes is))

pub bound_of_part : (domains : List Box) (boxes : Boxes) (x whole : TypedExpr) (part : Part) (one other : TypedExpr) (form : PartForm) {E : Type 0} (r : Result (Option Interval) E)
    → (out-TypedExpr x).form ≡ typed.Part whole part → one ≡ whole → other ≡ whole
    → form ≡ part_told part (is_axis_of_domain (tree_of one)) → IfOk r (λ bound. bound ≡ part_bound_of form (out-TypedExpr x).kind (box_in (shape_of domains (tree_of other))))
    → IfOk r (λ bound. bound ≡ number_bound domains boxes (tree_of x))
bound_of_part domains boxes x whole part one other form r is a b told found =
    if_ok_same r (part_bound_of form (out-TypedExpr x).kind (box_in (shape_of domains (tree_of other)))) (number_bound domains boxes (tree_of x))
    (ap (λ (e : TypedExpr). part_bound_of form (out-TypedExpr x).kind (box_in (shape_of domains (tree_of e)))) b
    ∙ ap (λ f. part_bound_of f (out-TypedExpr x).kind (box_in (shape_of domains (tree_of whole))))
    (told ∙ ap (λ (e : TypedExpr). part_told part (is_axis_of_domain (tree_of e))) a)
    ∙ sym (part_bounded domains boxes (out-TypedExpr x).kind (tree_of whole) part) ∙ sym (ap (number_bound domains boxes) (node_Part x whole part is))) found
