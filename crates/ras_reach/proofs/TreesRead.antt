-- What an index is, seen from the tree that it stands in.
use Rattle.std.proofs.Common.{◌≡◌, List, Bool, sym, ap, ◌∙◌}
use Rattle.ras_syntax.specs.declared.typed.TypedAxis.{TypedAxis}
use Rattle.ras_syntax.specs.declared.typed.TypedExpr.{TypedExpr, out-TypedExpr}
use Rattle.ras_syntax.specs.declared.typed.TypedForm.TheVariants as typed
use Rattle.spec_expressions.specs.Check.{tree_of_axes}
use Rattle.spec_expressions.specs.Tree.{tree_of}
use Rattle.ras_shape.specs.Ways.{is_axis_of_domain}
use Rattle.ras_shape.proofs.TreesSeen.{node_Index}
use Rattle.ras_reach.specs.Forms.{other_head, head_of_node, IndexSeen, axis_in_index, index_told}
use Rattle.ras_reach.proofs.FormsSeen.{index_head, index_axis}

pub index_is_other : (x e : TypedExpr) (axes : List TypedAxis) → (out-TypedExpr x).form ≡ typed.Index e axes → other_head ≡ head_of_node (tree_of x)
index_is_other x e axes is =
    sym (ap head_of_node (node_Index x e axes is) ∙ index_head (out-TypedExpr x).span (out-TypedExpr x).kind (tree_of e) (tree_of_axes axes))

pub axis_by_index : (x e : TypedExpr) (axes : List TypedAxis) (seen : IndexSeen) (told : Bool) → (out-TypedExpr x).form ≡ typed.Index e axes
    → seen ≡ index_told (tree_of e) (tree_of_axes axes) → told ≡ axis_in_index seen → told ≡ is_axis_of_domain (tree_of x)
axis_by_index x e axes seen told is by same =
    same ∙ ap axis_in_index by
    ∙ sym (ap is_axis_of_domain (node_Index x e axes is) ∙ index_axis (out-TypedExpr x).span (out-TypedExpr x).kind (tree_of e) (tree_of_axes axes))
