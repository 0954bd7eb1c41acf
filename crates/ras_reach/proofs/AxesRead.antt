-- What the positions of an index read, axis by axis.
use Rattle.std.proofs.Common.{◌≡◌, List, [], ◌++◌, refl, sym, ap, ◌∙◌}
use Rattle.std.proofs.lemmas.List.{append-nil}
use Rattle.ras_syntax.specs.declared.typed.TypedExpr.{TypedExpr}
use Rattle.ras_syntax.specs.declared.typed.TypedForm.{TypedForm, fold-TypedForm}
use Rattle.ras_syntax.specs.declared.typed.TypedDomain.{TypedDomain}
use Rattle.ras_syntax.specs.declared.typed.TypedAxis.{TypedAxis, map-TypedAxis, out-TypedAxis, fold_out-TypedAxis}
use Rattle.ras_syntax.specs.declared.typed.TypedAxis.TheOpen.{TypedAxis-F}
use Rattle.spec_expressions.specs.Reach.{Boxes, positions_reach, reach_of}
use Rattle.spec_expressions.specs.Shape.{Box}
use Rattle.spec_expressions.specs.Tree.{Tree, Form, Axes, Domain, no_axes, tree_of, axis_tree_step, domain_tree_step, form_tree_step, expr_tree_step}
use Rattle.ras_shape.specs.Trees.{axis_seen, domain_looked_at}

abbrev form_within : TypedForm → Form
form_within = fold-TypedForm (Axes → Axes) Domain Form Tree axis_tree_step domain_tree_step form_tree_step expr_tree_step

abbrev AxisLayer : Type 0
AxisLayer = TypedAxis-F (Axes → Axes) Domain Form Tree

abbrev layer_within : TypedAxis → AxisLayer
layer_within a = map-TypedAxis TypedAxis TypedDomain TypedForm TypedExpr (Axes → Axes) Domain Form Tree axis_seen domain_looked_at form_within tree_of (out-TypedAxis a)

axis-opened : (a : TypedAxis) (rest : Axes) → axis_seen a rest ≡ axis_tree_step (layer_within a) rest
axis-opened a rest = ap (λ before. before rest) (fold_out-TypedAxis (Axes → Axes) Domain Form Tree axis_tree_step domain_tree_step form_tree_step expr_tree_step a)

layer_split : (domains : List Box) (boxes : Boxes) (layer : AxisLayer) (rest : Axes)
    → positions_reach domains boxes (axis_tree_step layer rest) ≡ positions_reach domains boxes (axis_tree_step layer no_axes) ++ positions_reach domains boxes rest
layer_split domains boxes (TypedAxis-F.At t) rest = ap (λ reached. reached ++ positions_reach domains boxes rest) (sym (append-nil (reach_of domains boxes t [])))
layer_split domains boxes (TypedAxis-F.Trim a b) rest = refl

pub positions_split : (domains : List Box) (boxes : Boxes) (x : TypedAxis) (rest : Axes)
    → positions_reach domains boxes (axis_seen x rest) ≡ positions_reach domains boxes (axis_seen x no_axes) ++ positions_reach domains boxes rest
positions_split domains boxes x rest =
    ap (positions_reach domains boxes) (axis-opened x rest) ∙ layer_split domains boxes (layer_within x) rest
    ∙ ap (λ axes. positions_reach domains boxes axes ++ positions_reach domains boxes rest) (sym (axis-opened x no_axes))
