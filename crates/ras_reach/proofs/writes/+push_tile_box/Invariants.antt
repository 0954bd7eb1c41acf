use Rattle.std.proofs.Common.{length}
use Rattle.ras_reach.proofs.writes.+push_tile_box.Given as goal

abbrev pub decreases-push_tile_box : goal.decreases-push_tile_box
decreases-push_tile_box l = length l.extents.now
