use Rattle.std.proofs.Common.{ap, ◌∙◌, List}
use Rattle.ras_syntax.specs.declared.typed.TypedExpr.{TypedExpr}
use Rattle.ras_syntax.specs.declared.typed.TypedAxis.{TypedAxis}
use Rattle.spec_expressions.specs.Tree.{tree_of}
use Rattle.spec_expressions.specs.Check.{tree_of_axes}
use Rattle.ras_reach.specs.Forms.{index_seen, index_told}
use Rattle.ras_reach.proofs.TreesRead.{axis_by_index}
use Rattle.ras_reach.proofs.forms.is_axis_of_domain.Goals as goal

pub returns-in-Index : goal.returns-in-Index
returns-in-Index c =
    axis_by_index c.args.e.now c.in-Index.e c.in-Index.axes (index_seen c.index_form.result) c.is_axis.result c.in-Index.is
    (c.index_form.ensures ∙ ap (λ (e : TypedExpr). index_told (tree_of e) (tree_of_axes c.as_slice.result.now)) c.get.ensures
    ∙ ap (λ (axes : List TypedAxis). index_told (tree_of c.in-Index.e) (tree_of_axes axes)) c.as_slice.ensures)
    c.is_axis.ensures
