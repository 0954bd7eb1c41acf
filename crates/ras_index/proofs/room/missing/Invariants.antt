use Rattle.std.proofs.Common.{All, Contains, ◌⊎◌, take}
use Rattle.ras_index.specs.Slots.{places_of}
use Rattle.ras_index.proofs.room.missing.Given as goal

abbrev pub invariant-loop-place : goal.invariant-loop-place
invariant-loop-place g l = All (λ place. Contains (places_of l.slots) place.items ⊎ Contains l.missing.items place) (take l.place-index l.places)
