use Rattle.ras_domain.proofs.PointSets.{point_before_shift}
use Rattle.ras_domain.proofs.laws.shifted_box_has_shifted_points_alone.Goals as goal

pub returns : goal.returns
returns c = point_before_shift
