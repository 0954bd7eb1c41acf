use Rattle.ras_workload.proofs.Extents.{defaults_pass}
use Rattle.ras_workload.proofs.tile_extents.extents_of.Goals as goal

pub returns-in-None : goal.returns-in-None
returns-in-None c = rw c.in-None.is (defaults_pass c.args.axes c.requires.some c.requires.few, c.default_extents.ensures)
