use Rattle.std.proofs.Common.{length}
use Rattle.ras_reach.proofs.moves.+push_differences.Given as goal

abbrev pub decreases-push_differences : goal.decreases-push_differences
decreases-push_differences l = length l.from.now
