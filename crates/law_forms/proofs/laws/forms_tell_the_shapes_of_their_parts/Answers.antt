use Rattle.law_forms.proofs.ShapesOfParts.{part-shapes}
use Rattle.law_forms.proofs.laws.forms_tell_the_shapes_of_their_parts.Goals as goal

pub returns : goal.returns
returns c = part-shapes
