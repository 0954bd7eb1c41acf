use Rattle.std.proofs.Common.{◌≡◌, map, vec_len}
use Rattle.std.specs.Prelude.{filter}
use Rattle.ras_domain.specs.declared.lock.Mode.TheVariants.{Exclusive}
use Rattle.spec_statements.specs.Phases.{tile_lock}
use Rattle.ras_reach.specs.Keys.{put_before}
use Rattle.ras_reach.specs.TileLocks.{box_changes, points_held}
use Rattle.ras_reach.proofs.writes.put_changed.Given as goal

abbrev pub invariant-loop-place : goal.invariant-loop-place
invariant-loop-place l =
    put_before (map (tile_lock l.collection l.oid Exclusive) (filter (box_changes l.extents.items l.old l.new) (points_held l.left.items))) l.set
    ≡ put_before (map (tile_lock l.collection l.oid Exclusive) (filter (box_changes l.extents.items l.old l.new) (points_held l.initial.left.items))) l.initial.set

abbrev pub decreases-loop-place : goal.decreases-loop-place
decreases-loop-place l = vec_len l.left
