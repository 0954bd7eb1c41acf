use Rattle.std.proofs.Common.{length}
use Rattle.ras_values.proofs.moves.+push_moved_to.Given as goal

abbrev pub decreases-push_moved_to : goal.decreases-push_moved_to
decreases-push_moved_to l = length l.p.now
