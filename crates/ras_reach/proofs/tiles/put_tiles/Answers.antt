use Rattle.std.proofs.Common.{◌≡◌, ◌++◌, ◌∷◌, [], map}
use Rattle.spec_statements.specs.Phases.{tile_lock}
use Rattle.ras_reach.specs.Keys.{put_before}
use Rattle.ras_reach.specs.TileLocks.{points_held}
use Rattle.ras_reach.proofs.TileLoops.{tile_turn}
use Rattle.ras_reach.proofs.tiles.put_tiles.Goals as goal

pub loop-place-preserved : goal.loop-place-preserved
loop-place-preserved c =
    let is : c.loop-place.left.items ≡ c.pop.new.self.items ++ c.in-Some.place ∷ [] = c.in-Some.ensures.items in
    tile_turn c.args.collection.now c.args.oid c.args.mode c.loop-place.left.items c.pop.new.self.items c.in-Some.place c.in_ok-tile_name.field-0 c.loop-place.set c.put.new.self
    (put_before (map (tile_lock c.args.collection.now c.args.oid c.args.mode) (points_held c.args.places.items)) c.args.set.now)
    is c.in_ok-tile_name.ensures c.in_ok-put.ensures c.loop-place.invariant
