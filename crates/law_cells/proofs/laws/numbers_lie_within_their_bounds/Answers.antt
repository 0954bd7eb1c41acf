use Rattle.law_cells.proofs.Bounds.{number-bounded}
use Rattle.law_cells.proofs.laws.numbers_lie_within_their_bounds.Goals as goal

pub returns : goal.returns
returns c = number-bounded
