-- Orders that are joined.
use Rattle.std.proofs.Common.{◌≡◌, Ordering, Less, Equal, Greater, refl}
use Rattle.std.specs.Ordering.{ordering_then}

-- two answers that tie together tie each
pub both_equal : (a b : Ordering) → ordering_then a b ≡ Equal → (a ≡ Equal) × (b ≡ Equal)
both_equal Less b tie = absurd cc
both_equal Equal b tie = (refl, tie)
both_equal Greater b tie = absurd cc
