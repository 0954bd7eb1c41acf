use Rattle.spec_expressions.specs.Tree.{tree_of}
use Rattle.spec_expressions.specs.Check.{tree_of_axes}
use Rattle.ras_syntax.specs.declared.typed.TypedExpr.{out-TypedExpr}
use Rattle.ras_shape.proofs.TreesSeen.{node_Index}
use Rattle.ras_values.proofs.WaysSeen.{at_tree, index_other}
use Rattle.ras_values.proofs.heads.head_of.Goals as goal

pub returns-in-Index : goal.returns-in-Index
returns-in-Index c =
    at_tree _ _ _ (node_Index c.args.e.now _ _ c.in-Index.is)
    (index_other (out-TypedExpr c.args.e.now).span (out-TypedExpr c.args.e.now).kind (tree_of c.in-Index.e) (tree_of_axes c.in-Index.axes))
