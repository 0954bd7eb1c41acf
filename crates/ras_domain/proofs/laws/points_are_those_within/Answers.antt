use Rattle.ras_domain.proofs.Points.{Contains-IsIn}
use Rattle.ras_domain.proofs.laws.points_are_those_within.Goals as goal

pub returns : goal.returns
returns c = Contains-IsIn
