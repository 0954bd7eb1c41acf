use Rattle.spec_expressions.specs.Check.{tree_of_axes}
use Rattle.ras_shape.proofs.TreesSeen.{node_Index}
use Rattle.ras_values.proofs.WaysSeen.{axis_by}
use Rattle.ras_values.proofs.heads.is_interval.Goals as goal

pub returns-in-Index : goal.returns-in-Index
returns-in-Index c =
    axis_by c.args.e.now c.in-Index.e (tree_of_axes c.in-Index.axes) c.index_way.result c.is_axis.result (node_Index c.args.e.now _ _ c.in-Index.is)
    (rw (c.get.ensures, c.as_slice.ensures) at c.index_way.ensures) c.is_axis.ensures
