use Rattle.ras_domain.proofs.RowOrder.{points_of-ascends}
use Rattle.ras_domain.proofs.laws.rows_ascend.Goals as goal

pub returns : goal.returns
returns c = points_of-ascends
