use Rattle.std.proofs.Common.{◌∙◌, refl, ap}
use Rattle.ras_domain.specs.Region.{points_of}
use Rattle.ras_domain.proofs.RowOrder.{points_of-ascends}
use Rattle.ras_grid.specs.Grid.{place_box}
use Rattle.ras_grid.proofs.Tiles.{places_meeting-Meets}
use Rattle.ras_domain.proofs.Walks.{IsWalk-more, IsWalk-within, IsWalk-falls, IsWalk-read}
use Rattle.ras_grid.proofs.grid.tiles_meeting.Goals as goal

pub next_point-next-requires : goal.next_point-next-requires
next_point-next-requires c =
    IsWalk-within (λ p. record { items = p }) c.region_of_places-places.result c.in-Some.place.items c.loop-next.tiles.items (rw c.in-Some.is at c.loop-next.invariant)

pub loop-next-smaller : goal.loop-next-smaller
loop-next-smaller c =
    IsWalk-falls (λ p. record { items = p }) c.region_of_places-places.result c.in-Some.place.items c.loop-next.tiles.items c.push.new.self.items
    (rw c.in-Some.is at c.loop-next.invariant) c.in_ok-push.ensures.items

pub loop-next-preserved : goal.loop-next-preserved
loop-next-preserved c =
    IsWalk-more (λ p. record { items = p }) c.region_of_places-places.result c.in-Some.place.items _ c.loop-next.tiles.items c.push.new.self.items
    (rw c.in-Some.is at c.loop-next.invariant) c.next_point-next.ensures c.in_ok-push.ensures.items

pub returns-clause-places : goal.returns-clause-places
returns-clause-places c =
    IsWalk-read (λ p. record { items = p }) (λ tile. tile.items) (λ p. refl {a = p}) c.region_of_places-places.result c.loop-next.tiles.items (rw c.in_default.is at c.loop-next.invariant)
    ∙ ap points_of c.region_of_places-places.ensures.places

pub returns-clause-meet : goal.returns-clause-meet
returns-clause-meet c place =
    rw (returns-clause-places c) (places_meeting-Meets c.args.e.now.items c.args.r.now place c.requires.extents c.region_of_places-places.ensures.region c.requires.axes)

pub returns-clause-in_order : goal.returns-clause-in_order
returns-clause-in_order c =
    rw (returns-clause-places c) (points_of-ascends (place_box c.args.e.now.items c.args.r.now))
