-- A box whose intervals hold those of another one covers it.
use Rattle.std.proofs.Common.{◌≡◌, ℕ, suc, ◌+◌, ◌<◌, ℤ, pos, ◌≤ℤ◌, false, to_z, of_z, List, [], ◌∷◌, length, get_or, below_more, arith}
use Rattle.std.specs.Int.{w32, w64}
use Rattle.std.specs.Int.RustNames.{FitsSigned}
use lib.Signed.{lt_z}
use Rattle.std.proofs.lemmas.Int.{ints}
use Rattle.ras_domain.specs.declared.region.Interval.{Interval}
use Rattle.ras_domain.specs.Region.{IsIn, IsRegion}

abbrev pub no_interval : Interval
no_interval = record { lo = pos 0; hi = pos 0 }

-- the first interval holds the second
abbrev pub IsHeld : Interval → Interval → Type 0
IsHeld a b = (a.lo ≤ℤ b.lo) × (b.hi ≤ℤ a.hi)

-- each of the first n intervals of `outer` holds that of `inner`
abbrev pub IsWider : List Interval → List Interval → ℕ → Type 0
IsWider outer inner n = (k : ℕ) → k < n → IsHeld (get_or outer k no_interval) (get_or inner k no_interval)

-- what a test of two bounds of 32 bits says
not_below : (a b : ℤ) → FitsSigned w32 a → FitsSigned w32 b → lt_z (to_z w64 (of_z w64 a)) (to_z w64 (of_z w64 b)) ≡ false → b ≤ℤ a
not_below a b small few test =
    let left : to_z w64 (of_z w64 a) ≡ a = omega (arith, ints) in
    let right : to_z w64 (of_z w64 b) ≡ b = omega (arith, ints) in
    let plain : lt_z a b ≡ false = rw (left, right) at test in
    grind (arith, ints)

-- one more
pub IsWider-more : (outer inner : List Interval) (i : ℕ) → IsRegion outer → IsRegion inner → i < length outer → i < length inner → IsWider outer inner i
    → lt_z (to_z w64 (of_z w64 (get_or inner i no_interval).lo)) (to_z w64 (of_z w64 (get_or outer i no_interval).lo)) ≡ false
    → lt_z (to_z w64 (of_z w64 (get_or outer i no_interval).hi)) (to_z w64 (of_z w64 (get_or inner i no_interval).hi)) ≡ false
    → IsWider outer inner (i + 1)
IsWider-more outer inner i wide narrow in_outer in_inner below low high =
    let outer_small = wide.small_bounds i no_interval in_outer in
    let inner_small = narrow.small_bounds i no_interval in_inner in
    below_more (λ k. IsHeld (get_or outer k no_interval) (get_or inner k no_interval)) i below
    (not_below _ _ inner_small.0 outer_small.0 low, not_below _ _ outer_small.1 inner_small.1 high)

-- so each point of `inner` is one of `outer`
pub IsIn-wider : (outer inner : List Interval) → length outer ≡ length inner → IsWider outer inner (length outer) → (p : List ℤ) → IsIn p inner → IsIn p outer
IsIn-wider [] [] same wide p inside = inside
IsIn-wider [] (b ∷ inner) same wide p inside = absurd (omega arith)
IsIn-wider (a ∷ outer) [] same wide p inside = absurd (omega arith)
IsIn-wider (a ∷ outer) (b ∷ inner) same wide [] inside = absurd inside
IsIn-wider (a ∷ outer) (b ∷ inner) same wide (c ∷ p) inside =
    let first : IsHeld a b = wide 0 (omega arith) in (
      omega (arith, ints, first.0, inside.0),
      omega (arith, ints, first.1, inside.1),
      IsIn-wider outer inner (omega arith) (λ k below. wide (suc k) (omega arith)) p inside.2,
    )
