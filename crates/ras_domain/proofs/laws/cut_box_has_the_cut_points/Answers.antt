use Rattle.ras_domain.proofs.PointSets.{IsCut-remove}
use Rattle.ras_domain.proofs.laws.cut_box_has_the_cut_points.Goals as goal

pub returns : goal.returns
returns c = IsCut-remove
