-- Floors along one axis: the place of a coordinate, and the coordinates of a place.
use Rattle.std.proofs.Common.{◌⊎◌, inl, inr, ◌≡◌, ℕ, suc, ◌/◌, zero, ◌≤◌, ℤ, pos, negsuc, ◌+ℤ◌, ◌*ℤ◌, ◌≤ℤ◌, ◌<ℤ◌, ◌↔◌, FitsSigned, true, false, Option, MatchOption, refl, ap, ◌∙◌, arith}
use Rattle.std.specs.Int.{w32, int_max}
use Rattle.std.specs.Int.Signed.{le_z}
use Rattle.std.specs.Bool.{then_some}
use Rattle.std.proofs.lemmas.Int.{ints, clamps, by_lt_z}
use Rattle.std.proofs.Math.Nat.{mul-le-mul_right, div-le_self}
use Rattle.ras_domain.specs.declared.region.Interval.{Interval}
use Rattle.ras_domain.specs.Region.{HasSmallBounds, IsOrdered, extent_of}
use Rattle.ras_domain.proofs.Points.{int_gap_is}
use Rattle.ras_grid.specs.Grid.{IsFloor, grid_interval, place_along, places_along}
use Rattle.ras_domain.specs.Boxes.{meet_of_axis}

-- one place further the tile begins an extent later
after_product : (e : ℕ) (q : ℤ) → ((q +ℤ pos 1) *ℤ pos e) ≡ ((q *ℤ pos e) +ℤ pos e)
after_product e (pos a) = omega (arith, ints)
after_product e (negsuc zero) = omega (arith, ints)
after_product e (negsuc (suc a)) =
    let back : (negsuc (suc a) +ℤ pos 1) ≡ negsuc a = omega (arith, ints) in
    let one : (negsuc a *ℤ pos e) ≡ ((negsuc (suc a) *ℤ pos e) +ℤ pos e) = omega (arith, ints) in
    ap (λ z. z *ℤ pos e) back ∙ one

-- the place is the floor
pub IsFloor-place_along : (e : ℕ) (c : ℤ) → 1 ≤ e → IsFloor e c (place_along e c)
IsFloor-place_along e (pos a) some = (omega (arith, ints), omega (arith, ints))
IsFloor-place_along e (negsuc a) some = (omega (arith, ints), omega (arith, ints, after_product e (negsuc (a / e))))

-- tiles begin in the order of their places
products_ascend : (e : ℕ) (q r : ℤ) → q ≤ℤ r → (q *ℤ pos e) ≤ℤ (r *ℤ pos e)
products_ascend e (pos a) (pos b) le = let h : a ≤ b = omega (arith, ints) in omega (arith, ints, mul-le-mul_right e h)
products_ascend e (pos a) (negsuc b) le = absurd (omega (arith, ints))
products_ascend e (negsuc a) (pos b) le = omega (arith, ints)
products_ascend e (negsuc a) (negsuc b) le = let h : suc b ≤ suc a = omega (arith, ints) in omega (arith, ints, mul-le-mul_right e h)

-- floors ascend with the coordinates
pub floors_ascend : (e : ℕ) (c d q r : ℤ) → c ≤ℤ d → IsFloor e c q → IsFloor e d r → q ≤ℤ r
floors_ascend e c d q r le low high =
    by_lt_z r q (λ past. absurd (omega (arith, ints, past, products_ascend e (r +ℤ pos 1) q (omega (arith, ints, past)), low.0, high.1))) (λ fine. fine)

-- a coordinate has one floor
pub floors_agree : (e : ℕ) (c q r : ℤ) → IsFloor e c q → IsFloor e c r → q ≡ r
floors_agree e c q r left right =
    omega (arith, ints, floors_ascend e c c q r (omega (arith, ints)) left right, floors_ascend e c c r q (omega (arith, ints)) right left)

-- the numbers from lo to hi
abbrev pub IsWithin : Interval → ℤ → Type 0
IsWithin axis c = (axis.lo ≤ℤ c) × (c ≤ℤ axis.hi)

-- the coordinates of a tile are those with its place as floor
pub IsFloor-grid_interval : (e : ℕ) (c q : ℤ) → IsFloor e c q ↔ IsWithin (grid_interval e q) c
IsFloor-grid_interval e c q =
    (λ floor. (floor.0, omega (arith, ints, after_product e q, floor.1)), λ within. (within.0, omega (arith, ints, after_product e q, within.1)))

-- a coordinate lies in a tile exactly where its place is the tile's
pub IsWithin-grid_interval : (e : ℕ) (c q : ℤ) → 1 ≤ e → IsWithin (grid_interval e q) c ↔ (place_along e c ≡ q)
IsWithin-grid_interval e c q some = (
  λ within. floors_agree e c (place_along e c) q (IsFloor-place_along e c some) ((IsFloor-grid_interval e c q).1 within),
  λ same. rw same at
      ((IsFloor-grid_interval e c (place_along e c)).0 (IsFloor-place_along e c some)),
)

-- places ascend with the coordinates
pub place_along-ascends : (e : ℕ) (c d : ℤ) → 1 ≤ e → c ≤ℤ d → place_along e c ≤ℤ place_along e d
place_along-ascends e c d some le =
    floors_ascend e c d (place_along e c) (place_along e d) le (IsFloor-place_along e c some) (IsFloor-place_along e d some)

-- a number is in two intervals exactly where it is in what they have in common
pub IsWithin-meet_of_axis : (a b : Interval) (c : ℤ) → IsWithin (meet_of_axis a b) c ↔ (IsWithin a c × IsWithin b c)
IsWithin-meet_of_axis a b c = (
  λ both. ((omega (arith, ints, clamps, both.0), omega (arith, ints, clamps, both.1)), (omega (arith, ints, clamps, both.0), omega (arith, ints, clamps, both.1))),
  λ both. (omega (arith, ints, clamps, both.0.0, both.1.0), omega (arith, ints, clamps, both.0.1, both.1.1)),
)

-- a tile and an interval have something in common exactly where its place is one of the interval's places
pub IsOrdered-common : (e : ℕ) (q : ℤ) (axis : Interval) → 1 ≤ e → IsOrdered axis → IsOrdered (meet_of_axis (grid_interval e q) axis) ↔ IsWithin (places_along e axis) q
IsOrdered-common e q axis some ordered =
    let low : place_along e axis.lo ≤ℤ q → axis.lo <ℤ ((q *ℤ pos e) +ℤ pos e) = λ le. omega
    (arith, ints, after_product e q, products_ascend e (place_along e axis.lo +ℤ pos 1) (q +ℤ pos 1) (omega (arith, ints, le)), (IsFloor-place_along e axis.lo some).1) in
    let high : q ≤ℤ place_along e axis.hi → (q *ℤ pos e) ≤ℤ axis.hi = λ le. omega (arith, ints, products_ascend e q (place_along e axis.hi) le, (IsFloor-place_along e axis.hi some).0) in (
      λ met. let c : ℤ = int_max (q *ℤ pos e) axis.lo in
          let both = (IsWithin-meet_of_axis (grid_interval e q) axis c).0 (omega (arith, ints), met) in
          let here : place_along e c ≡ q = (IsWithin-grid_interval e c q some).0 both.0 in
          (rw here at (place_along-ascends e axis.lo c some both.1.0), rw here at (place_along-ascends e c axis.hi some both.1.1)),
      λ within. omega (arith, ints, clamps, low within.0, high within.1),
    )

-- the places of an interval are in order
pub places_along-ordered : (e : ℕ) (axis : Interval) → 1 ≤ e → IsOrdered axis → IsOrdered (places_along e axis)
places_along-ordered e axis some ordered = place_along-ascends e axis.lo axis.hi some ordered

-- a place lies between 0 and its coordinate, or between its coordinate and -1
small_place : (e : ℕ) (c : ℤ) → 1 ≤ e → ((c ≤ℤ place_along e c) × (place_along e c <ℤ pos 0)) ⊎ ((pos 0 ≤ℤ place_along e c) × (place_along e c ≤ℤ c))
small_place e (pos a) some = inr (omega (arith, ints), omega (arith, ints, div-le_self a e))
small_place e (negsuc a) some = inl (omega (arith, ints, div-le_self a e), omega (arith, ints))

-- so it is small where its coordinate is
FitsSigned-place_along : (e : ℕ) (c : ℤ) → 1 ≤ e → FitsSigned w32 c → FitsSigned w32 (place_along e c)
FitsSigned-place_along e c some fits = elim (small_place e c some) [ inl low ↦ omega (arith, ints, low.0, low.1) | inr high ↦ omega (arith, ints, high.0, high.1) ]

-- the places of an interval are small where its bounds are
pub places_along-small : (e : ℕ) (axis : Interval) → 1 ≤ e → HasSmallBounds axis → HasSmallBounds (places_along e axis)
places_along-small e axis some small =
    (FitsSigned-place_along e axis.lo some small.0, FitsSigned-place_along e axis.hi some small.1)

-- places are no further apart than the first coordinates of their tiles
products_apart : (e : ℕ) (q r : ℤ) → 1 ≤ e → q ≤ℤ r → ((q *ℤ pos e) +ℤ r) ≤ℤ ((r *ℤ pos e) +ℤ q)
products_apart zero q r some le = absurd (omega arith)
products_apart (suc e) (pos a) (pos b) some le = let h : a ≤ b = omega (arith, ints) in omega (arith, ints, mul-le-mul_right e h)
products_apart (suc e) (pos a) (negsuc b) some le = absurd (omega (arith, ints))
products_apart (suc e) (negsuc a) (pos b) some le = omega (arith, ints)
products_apart (suc e) (negsuc a) (negsuc b) some le = let h : suc b ≤ suc a = omega (arith, ints) in omega (arith, ints, mul-le-mul_right e h)

-- places are no further apart than their coordinates
gaps_shrink : (e : ℕ) (c d : ℤ) → 1 ≤ e → c ≤ℤ d → (place_along e d +ℤ c) ≤ℤ (place_along e c +ℤ d)
gaps_shrink e c d some le =
    let q : ℤ = place_along e c in
    let r : ℤ = place_along e d in
    by_lt_z q r (λ lt. omega (
      arith,
      ints,
      products_apart e (q +ℤ pos 1) r some (omega (arith, ints, lt)),
      (IsFloor-place_along e c some).1,
      (IsFloor-place_along e d some).0,
    )) (λ back. omega (arith, ints, le, back))

-- an interval has no more places than coordinates
pub places_along-few : (e : ℕ) (axis : Interval) → 1 ≤ e → IsOrdered axis → extent_of (places_along e axis) ≤ extent_of axis
places_along-few e axis some ordered =
    omega (arith, ints, gaps_shrink e axis.lo axis.hi some ordered, int_gap_is axis.lo (axis.hi +ℤ pos 1), int_gap_is (place_along e axis.lo) (place_along e axis.hi +ℤ pos 1))

-- what a tile and an interval have in common is small where the interval is
pub meet_of_axis-small : (a b : Interval) → IsOrdered (meet_of_axis a b) → HasSmallBounds b → HasSmallBounds (meet_of_axis a b)
meet_of_axis-small a b ordered small =
    (omega (arith, ints, clamps, small.0, small.1, ordered), omega (arith, ints, clamps, small.0, small.1, ordered))

-- and has no more coordinates than it
pub meet_of_axis-few : (a b : Interval) → IsOrdered (meet_of_axis a b) → extent_of (meet_of_axis a b) ≤ extent_of b
meet_of_axis-few a b ordered =
    omega (arith, ints, clamps, ordered, int_gap_is b.lo (b.hi +ℤ pos 1), int_gap_is (meet_of_axis a b).lo ((meet_of_axis a b).hi +ℤ pos 1))

-- the answer of a test whether an interval is ordered
pub some_where_ordered : (i : Interval) (r : Option Interval) → r ≡ then_some (le_z i.lo i.hi) i → MatchOption r (¬ IsOrdered i) (λ found. (found ≡ i) × IsOrdered i)
some_where_ordered i r is =
    rw is (elim (le_z i.lo i.hi) as (λ b. le_z i.lo i.hi ≡ b → MatchOption (then_some b i) (¬ IsOrdered i) (λ found. (found ≡ i) × IsOrdered i))
    [ true ↦ λ fits. (refl, omega (arith, ints, fits)) | false ↦ λ fails. λ ordered. absurd (omega (arith, ints, fails, ordered)) ] refl)
