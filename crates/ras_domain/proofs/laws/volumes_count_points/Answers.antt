use Rattle.ras_domain.proofs.BoxTests.{volume_of-points}
use Rattle.ras_domain.proofs.laws.volumes_count_points.Goals as goal

pub returns : goal.returns
returns c = volume_of-points
