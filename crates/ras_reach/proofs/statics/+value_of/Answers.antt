use Rattle.std.proofs.Common.{sym, ap, ◌∙◌}
use Rattle.spec_expressions.specs.Check.{tree_of_axes}
use Rattle.spec_expressions.specs.Shape.{static_of}
use Rattle.spec_expressions.specs.Tree.{tree_of}
use Rattle.ras_shape.proofs.TreesSeen.{node_Index}
use Rattle.ras_reach.proofs.PartsRead.{value_of_part}
use Rattle.ras_reach.proofs.StaticsSeen.{index_static}
use Rattle.ras_reach.proofs.statics.+value_of.Goals as goal

pub returns-in-Part : goal.returns-in-Part
returns-in-Part t c =
    value_of_part c.args.domains.now c.args.e.now c.in-Part.whole c.in-Part.part c.get.result.now c.get-in-Part.result.now c.part_form-form.result c.part_value.result
    c.in-Part.is c.get.ensures c.get-in-Part.ensures c.part_form-form.ensures c.part_value.ensures

pub returns-in-Index : goal.returns-in-Index
returns-in-Index t c =
    sym (ap (static_of c.args.domains.now) (node_Index c.args.e.now c.in-Index.e c.in-Index.axes c.in-Index.is)
    ∙ index_static c.args.domains.now (tree_of c.in-Index.e) (tree_of_axes c.in-Index.axes))
