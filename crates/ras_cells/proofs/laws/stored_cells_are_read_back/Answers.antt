use Rattle.ras_cells.proofs.Storing.{AreInRange-stored_of, read_of-null}
use Rattle.ras_cells.proofs.laws.stored_cells_are_read_back.Goals as goal

pub returns-clause-in_range : goal.returns-clause-in_range
returns-clause-in_range c = AreInRange-stored_of

pub returns-clause-null : goal.returns-clause-null
returns-clause-null c = read_of-null
