use Rattle.ras_reach.proofs.PhasesSeen.{no_list}
use Rattle.ras_reach.proofs.phases.condition_list.Goals as goal

pub returns-in-None : goal.returns-in-None
returns-in-None c = rw c.in-None.is (no_list c.args.length c.args.sources.now c.args.rows.now c.new.result c.new.ensures)
