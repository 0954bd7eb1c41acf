use Rattle.law_shapes.proofs.Agree.{shape-agrees}
use Rattle.law_shapes.proofs.laws.shapes_agree_with_kinds.Goals as goal

pub returns : goal.returns
returns c = shape-agrees
