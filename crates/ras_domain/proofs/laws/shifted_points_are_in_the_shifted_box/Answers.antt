use Rattle.ras_domain.proofs.PointSets.{IsShifted-shifted_by}
use Rattle.ras_domain.proofs.laws.shifted_points_are_in_the_shifted_box.Goals as goal

pub returns : goal.returns
returns c = IsShifted-shifted_by
