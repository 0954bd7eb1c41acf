use Rattle.ras_domain.proofs.BoxTests.{Covers-LiesIn}
use Rattle.ras_domain.proofs.laws.boxes_within_are_covered.Goals as goal

pub returns : goal.returns
returns c = Covers-LiesIn
