use Rattle.law_reach.proofs.Reach.{reach-covers}
use Rattle.law_reach.proofs.laws.cells_depend_on_what_is_reached.Goals as goal

pub returns : goal.returns
returns c = reach-covers
