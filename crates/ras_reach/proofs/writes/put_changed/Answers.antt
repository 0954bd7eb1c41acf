use Rattle.std.proofs.Common.{◌≡◌, ◌++◌, ◌∷◌, [], map}
use Rattle.std.specs.Prelude.{filter}
use Rattle.ras_domain.specs.declared.lock.Mode.TheVariants.{Exclusive}
use Rattle.spec_statements.specs.Phases.{tile_lock}
use Rattle.ras_reach.specs.Keys.{put_before}
use Rattle.ras_reach.specs.TileLocks.{box_changes, points_held}
use Rattle.ras_reach.proofs.TileLoops.{changed_turn}
use Rattle.ras_reach.proofs.writes.put_changed.Goals as goal

pub loop-place-preserved : goal.loop-place-preserved
loop-place-preserved c =
    let is : c.loop-place.left.items ≡ c.pop.new.self.items ++ c.in-Some.place ∷ [] = c.in-Some.ensures.items in
    changed_turn c.args.collection.now c.args.oid Exclusive (box_changes c.args.extents.now.items c.args.old.now c.args.new.now) c.loop-place.left.items c.pop.new.self.items c.in-Some.place
    c.loop-place.set c.put_if_changed.new.set
    (put_before (map (tile_lock c.args.collection.now c.args.oid Exclusive) (filter (box_changes c.args.extents.now.items c.args.old.now c.args.new.now)
    (points_held c.args.places.items))) c.args.set.now)
    is c.in_ok-put_if_changed.ensures c.loop-place.invariant
