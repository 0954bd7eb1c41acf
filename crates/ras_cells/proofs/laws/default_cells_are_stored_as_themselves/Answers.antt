use Rattle.ras_cells.proofs.Storing.{AreInRange-default_of, stored_of-default}
use Rattle.ras_cells.proofs.laws.default_cells_are_stored_as_themselves.Goals as goal

pub returns-clause-in_range : goal.returns-clause-in_range
returns-clause-in_range c = AreInRange-default_of

pub returns-clause-stored : goal.returns-clause-stored
returns-clause-stored c = stored_of-default
