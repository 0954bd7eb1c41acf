use Rattle.std.proofs.Common.{length}
use Rattle.ras_values.proofs.moves.+push_moved_back.Given as goal

abbrev pub decreases-push_moved_back : goal.decreases-push_moved_back
decreases-push_moved_back l = length l.p.now
