use Rattle.std.proofs.Common.{◌≡◌, length, pos, to_z, of_z, to_z-of_z, rules, arith}
use Rattle.std.specs.Int.{w64}
use Rattle.std.proofs.lemmas.Int.{ints}
use Rattle.std.proofs.lemmas.List.{length_push}
use Rattle.std.proofs.lemmas.Slice.Zip.{zip_turn, zip_end}
use Rattle.ras_grid.specs.Grid.{place_along}
use Rattle.law_lists.proofs.Zips.{pairs_more, pairs_all}
use Rattle.ras_grid.proofs.Tiles.{AreFloors-tile_place}
use Rattle.ras_grid.proofs.grid.tile_of.Goals as goal

pub loop-extent-preserved : goal.loop-extent-preserved
loop-extent-preserved c =
    let turn = zip_turn c.args.e.now.items c.args.p.now.items c.loop-extent.yielded _ c.loop-extent.extent-iterator c.next.new.self c.next.result (cc) (cc)
    c.loop-extent.yielded_by (c.in-Some.extent, c.in-Some.c) c.in-Some.is c.next.ensures.steps in
    let coordinate : to_z w64 (of_z w64 c.in-Some.c.now) ≡ c.in-Some.c.now = to_z-of_z {w = w64} (search rules) in
    let extent : to_z w64 (of_z w64 c.from.result) ≡ pos c.in-Some.extent.now = omega (arith, ints) in
    let quotient : c.div_euclid.result ≡ place_along c.in-Some.extent.now c.in-Some.c.now = rw (coordinate, extent) at c.div_euclid.ensures in
    let same : to_z w64 (of_z w64 c.div_euclid.result) ≡ c.div_euclid.result = omega (arith, ints) in
    rw (length_push c.loop-extent.yielded (c.in-Some.extent, c.in-Some.c))
    (pairs_more (λ axis. place_along axis.0 axis.1) c.args.e.now.items c.args.p.now.items (length c.loop-extent.yielded) c.in-Some.extent.now c.in-Some.c.now
    c.loop-extent.place.items c.push.new.self.items
    turn.0 turn.1 (turn.2 c.in-Some.extent.now) (turn.3 c.in-Some.c.now) c.loop-extent.invariant (rw (same, quotient) at c.push.ensures.items))

pub returns-clause-place : goal.returns-clause-place
returns-clause-place c =
    let end = zip_end c.args.e.now.items c.args.p.now.items c.loop-extent.yielded _ c.loop-extent.extent-iterator c.next.new.self c.next.result (cc) (cc)
    c.loop-extent.yielded_by c.in-None.is c.next.ensures.steps in
    pairs_all (λ axis. place_along axis.0 axis.1) c.args.e.now.items c.args.p.now.items (length c.loop-extent.yielded) c.loop-extent.place.items end c.loop-extent.invariant

pub returns-clause-floors : goal.returns-clause-floors
returns-clause-floors c = rw (returns-clause-place c) (AreFloors-tile_place c.args.e.now.items c.args.p.now.items c.requires.extents c.requires.axes)
