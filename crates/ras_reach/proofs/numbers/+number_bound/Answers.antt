use Rattle.ras_reach.proofs.PartsRead.{bound_of_index, bound_of_part}
use Rattle.ras_reach.specs.Forms.{index_seen}
use Rattle.ras_reach.specs.Variables.{variable_boxes}
use Rattle.ras_reach.proofs.numbers.+number_bound.Goals as goal

pub returns-in-Index : goal.returns-in-Index
returns-in-Index t c =
    bound_of_index c.args.domains.now (variable_boxes c.args.variables.now) c.args.e.now c.in-Index.whole c.in-Index.axes c.get.result.now c.as_slice.result.now
    (index_seen c.index_form-form.result) c.index_bound.result c.in-Index.is c.get.ensures c.as_slice.ensures c.index_form-form.ensures c.index_bound.ensures

pub returns-in-Part : goal.returns-in-Part
returns-in-Part t c =
    bound_of_part c.args.domains.now (variable_boxes c.args.variables.now) c.args.e.now c.in-Part.whole c.in-Part.part
    c.get-in-Part.result.now c.get-in-Part-2.result.now c.part_form-form.result c.part_bound.result
    c.in-Part.is c.get-in-Part.ensures c.get-in-Part-2.ensures c.part_form-form.ensures c.part_bound.ensures
