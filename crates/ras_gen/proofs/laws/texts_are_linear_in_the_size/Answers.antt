use Rattle.ras_gen.proofs.Lengths.{length-text_of-le}
use Rattle.ras_gen.proofs.laws.texts_are_linear_in_the_size.Goals as goal

pub returns : goal.returns
returns c = length-text_of-le
