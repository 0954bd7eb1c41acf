use Rattle.ras_domain.proofs.PointSets.{IsHull-hull_of}
use Rattle.ras_domain.proofs.laws.hull_is_the_least_box.Goals as goal

pub returns : goal.returns
returns c = IsHull-hull_of
