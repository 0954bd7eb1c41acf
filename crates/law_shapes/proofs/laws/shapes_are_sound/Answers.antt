use Rattle.law_shapes.proofs.Sound.{shape-sound}
use Rattle.law_shapes.proofs.laws.shapes_are_sound.Goals as goal

pub returns : goal.returns
returns c = shape-sound
