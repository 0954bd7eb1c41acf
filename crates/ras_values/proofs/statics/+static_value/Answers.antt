use Rattle.std.proofs.lemmas.Result.{IfOk-weaker}
use Rattle.spec_expressions.specs.Tree.{tree_of, lower, upper}
use Rattle.spec_expressions.specs.Check.{tree_of_axes}
use Rattle.ras_shape.proofs.TreesSeen.{node_Part, node_Index}
use Rattle.ras_values.proofs.StaticForms.{static_bound, static_index}
use Rattle.ras_values.proofs.statics.+static_value.Goals as goal

pub returns-in-Lower : goal.returns-in-Lower
returns-in-Lower t c =
    IfOk-weaker c.lower_bound.result _ _
    (λ v is. static_bound c.args.domains.now lower c.args.e.now c.in-Part.e c.in-Part.part v (node_Part c.args.e.now _ _ c.in-Part.is)
    (rw (c.get-in-Part.ensures, c.in-Lower.is) at c.part_way.ensures) is)
    (rw c.get-in-Lower.ensures at c.lower_bound.ensures)

pub returns-in-Upper : goal.returns-in-Upper
returns-in-Upper t c =
    IfOk-weaker c.upper_bound.result _ _
    (λ v is. static_bound c.args.domains.now upper c.args.e.now c.in-Part.e c.in-Part.part v (node_Part c.args.e.now _ _ c.in-Part.is)
    (rw (c.get-in-Part.ensures, c.in-Upper.is) at c.part_way.ensures) is)
    (rw c.get-in-Upper.ensures at c.upper_bound.ensures)

pub returns-in-Index : goal.returns-in-Index
returns-in-Index t c = static_index c.args.domains.now c.args.e.now (tree_of c.in-Index.e) (tree_of_axes c.in-Index.axes) (node_Index c.args.e.now _ _ c.in-Index.is)
