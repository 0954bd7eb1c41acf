use Rattle.ras_cells.proofs.Ranges.{AreInRange-are_in_range}
use Rattle.ras_cells.proofs.laws.ranges_are_tested.Goals as goal

pub returns-clause-all : goal.returns-clause-all
returns-clause-all c = AreInRange-are_in_range
