use Rattle.std.proofs.Common.{ap, ◌∙◌, List}
use Rattle.ras_syntax.specs.declared.typed.TypedExpr.{TypedExpr}
use Rattle.ras_syntax.specs.declared.typed.TypedAxis.{TypedAxis}
use Rattle.spec_expressions.specs.Tree.{tree_of}
use Rattle.spec_expressions.specs.Check.{tree_of_axes}
use Rattle.ras_shape.specs.Ways.{index_way_of}
use Rattle.ras_shape.proofs.TreesSeen.{axis_by_way}
use Rattle.ras_shape.proofs.ways.is_interval.Goals as goal

pub returns-in-Index : goal.returns-in-Index
returns-in-Index c =
    axis_by_way c.args.e.now c.in-Index.e c.in-Index.axes c.index_way.result c.is_axis.result c.in-Index.is
    (c.index_way.ensures ∙ ap (λ (e : TypedExpr). index_way_of (tree_of e) (tree_of_axes c.as_slice.result.now)) c.get.ensures
    ∙ ap (λ (axes : List TypedAxis). index_way_of (tree_of c.in-Index.e) (tree_of_axes axes)) c.as_slice.ensures)
    c.is_axis.ensures
