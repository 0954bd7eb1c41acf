use Rattle.std.proofs.Common.{refl}
use Rattle.std.specs.Fmt.{digits}
use Rattle.ras_gen.specs.Draws.{state_after}
use Rattle.ras_gen.specs.Text.{box_text, opening}
use Rattle.ras_gen.proofs.laws.the_text_of_7_and_1.Goals as goal

pub returns : goal.returns
unfolding box_text digits opening state_after
returns c = refl
