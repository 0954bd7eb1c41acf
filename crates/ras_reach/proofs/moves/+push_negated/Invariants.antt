use Rattle.std.proofs.Common.{length}
use Rattle.ras_reach.proofs.moves.+push_negated.Given as goal

abbrev pub decreases-push_negated : goal.decreases-push_negated
decreases-push_negated l = length l.numbers.now
