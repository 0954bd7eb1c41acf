use Rattle.std.proofs.Common.{length}
use Rattle.ras_reach.proofs.moves.+push_shifted.Given as goal

abbrev pub decreases-push_shifted : goal.decreases-push_shifted
decreases-push_shifted l = length l.offsets.now
