use Rattle.std.proofs.Common.{◌≡◌, length, pos, to_z, of_z, to_z-of_z, rules, arith}
use Rattle.std.specs.Int.{w64}
use Rattle.std.proofs.lemmas.Int.{ints}
use Rattle.std.proofs.lemmas.List.{length_push}
use Rattle.std.proofs.lemmas.Slice.Zip.{zip_turn, zip_end}
use Rattle.ras_grid.specs.Grid.{place_along, places_along}
use Rattle.law_lists.proofs.Zips.{pairs_more, pairs_all}
use Rattle.ras_grid.proofs.grid.places_of.Goals as goal

pub loop-extent-preserved : goal.loop-extent-preserved
loop-extent-preserved c =
    let turn = zip_turn c.args.extents.now c.args.axes.now c.loop-extent.yielded _ c.loop-extent.extent-iterator c.next.new.self c.next.result (cc) (cc)
    c.loop-extent.yielded_by (c.in-Some.extent, c.in-Some.axis) c.in-Some.is c.next.ensures.steps in
    let lo : to_z w64 (of_z w64 c.in-Some.axis.now.lo) ≡ c.in-Some.axis.now.lo = to_z-of_z {w = w64} (search rules) in
    let hi : to_z w64 (of_z w64 c.in-Some.axis.now.hi) ≡ c.in-Some.axis.now.hi = to_z-of_z {w = w64} (search rules) in
    let extent : to_z w64 (of_z w64 c.from-extent.result) ≡ pos c.in-Some.extent.now = omega (arith, ints) in
    let first : c.div_euclid.result ≡ place_along c.in-Some.extent.now c.in-Some.axis.now.lo = rw (lo, extent) at c.div_euclid.ensures in
    let last : c.div_euclid-in-loop-extent.result ≡ place_along c.in-Some.extent.now c.in-Some.axis.now.hi = rw (hi, extent) at c.div_euclid-in-loop-extent.ensures in
    let same : to_z w64 (of_z w64 c.div_euclid.result) ≡ c.div_euclid.result = omega (arith, ints) in
    let again : to_z w64 (of_z w64 c.div_euclid-in-loop-extent.result) ≡ c.div_euclid-in-loop-extent.result = omega (arith, ints) in
    rw (length_push c.loop-extent.yielded (c.in-Some.extent, c.in-Some.axis))
    (pairs_more (λ axis. places_along axis.0 axis.1) c.args.extents.now c.args.axes.now (length c.loop-extent.yielded) c.in-Some.extent.now c.in-Some.axis.now
    c.loop-extent.places.items c.push.new.self.items
    turn.0 turn.1 (turn.2 c.in-Some.extent.now) (turn.3 c.in-Some.axis.now) c.loop-extent.invariant (rw (same, again, first, last) at c.push.ensures.items))

pub returns : goal.returns
returns c =
    let end = zip_end c.args.extents.now c.args.axes.now c.loop-extent.yielded _ c.loop-extent.extent-iterator c.next.new.self c.next.result (cc) (cc)
    c.loop-extent.yielded_by c.in-None.is c.next.ensures.steps in
    pairs_all (λ axis. places_along axis.0 axis.1) c.args.extents.now c.args.axes.now (length c.loop-extent.yielded) c.loop-extent.places.items end c.loop-extent.invariant
