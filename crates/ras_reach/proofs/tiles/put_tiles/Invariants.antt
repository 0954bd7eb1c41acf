use Rattle.std.proofs.Common.{◌≡◌, map, vec_len}
use Rattle.spec_statements.specs.Phases.{tile_lock}
use Rattle.ras_reach.specs.Keys.{put_before}
use Rattle.ras_reach.specs.TileLocks.{points_held}
use Rattle.ras_reach.proofs.tiles.put_tiles.Given as goal

abbrev pub invariant-loop-place : goal.invariant-loop-place
invariant-loop-place l =
    put_before (map (tile_lock l.collection l.oid l.mode) (points_held l.left.items)) l.set
    ≡ put_before (map (tile_lock l.collection l.oid l.mode) (points_held l.initial.left.items)) l.initial.set

abbrev pub decreases-loop-place : goal.decreases-loop-place
decreases-loop-place l = vec_len l.left
