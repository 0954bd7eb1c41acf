use Rattle.ras_work.proofs.Stored.{stored-fits}
use Rattle.ras_work.proofs.cells.fitting.Goals as goal

pub returns-in-Ok-clause-range : goal.returns-in-Ok-clause-range
returns-in-Ok-clause-range c = stored-fits c.args.of.now.cell c.args.of.now.nulls c.args.numbers c.in-Ok.fit c.in-Ok.ensures
