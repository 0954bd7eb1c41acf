use Rattle.ras_domain.proofs.PointSets.{Covers-antisym}
use Rattle.ras_domain.proofs.laws.regions_are_their_points.Goals as goal

pub returns : goal.returns
returns c a b p q same = Covers-antisym a b p.ordered q.ordered (λ x. (same x).1) (λ x. (same x).0)
