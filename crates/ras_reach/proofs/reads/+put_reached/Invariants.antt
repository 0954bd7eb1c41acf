use Rattle.std.proofs.Common.{length}
use Rattle.ras_reach.proofs.reads.+put_reached.Given as goal

abbrev pub decreases-put_reached : goal.decreases-put_reached
decreases-put_reached l = length l.reached.now
