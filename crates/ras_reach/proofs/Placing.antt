-- The places of joined parts, one after another.
use Rattle.std.proofs.Common.{◌≡◌, ℕ, List, [], ◌∷◌, ◌++◌, map, Vec, Global, sym, ap, ◌∙◌, append_assoc}
use Rattle.std.proofs.lemmas.List.{map-append}
use Rattle.ras_domain.specs.declared.region.Interval.{Interval}
use Rattle.ras_reach.specs.Moved.{boxes_held}

-- one more box stands at the end
pub held_more : (places : List (Vec Interval Global)) (last : Vec Interval Global) → boxes_held (places ++ last ∷ []) ≡ boxes_held places ++ last.items ∷ []
held_more places last = map-append (λ (axes : Vec Interval Global). axes.items) places (last ∷ [])

pub ruleset placing = (held_more, append_assoc)
