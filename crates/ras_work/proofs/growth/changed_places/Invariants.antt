use Rattle.std.proofs.Common.{◌≡◌, map, filter, take}
use Rattle.law_work.specs.ChangesFor.{is_grown_place}
use Rattle.ras_work.proofs.growth.changed_places.Given as goal

abbrev pub invariant-loop-place : goal.invariant-loop-place
invariant-loop-place l =
    map (λ place. place.items) l.changed.items
    ≡ filter (is_grown_place l.extents.items l.old l.write.grown l.write.region) (map (λ place. place.items) (take l.place-index l.places))
