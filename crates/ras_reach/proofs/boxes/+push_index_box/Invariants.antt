use Rattle.std.proofs.Common.{length}
use Rattle.ras_reach.proofs.boxes.+push_index_box.Given as goal

abbrev pub decreases-push_index_box : goal.decreases-push_index_box
decreases-push_index_box l = length l.index.now
