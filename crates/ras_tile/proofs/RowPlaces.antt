-- Where the points of a row lie: those that agree but in the last coordinate.
use Rattle.std.proofs.Common.{◌≡◌, ℕ, zero, suc, ◌+◌, ◌-◌, ◌*◌, ◌≤◌, ◌<◌, ℤ, pos, ◌+ℤ◌, ◌-ℤ◌, ◌≤ℤ◌, List, [], ◌∷◌, map, length, get_or, set, Some, refl, sym, ap, ◌∙◌, arith, inl, inr, ◌⊎◌, to_z, of_z}
use Rattle.std.specs.Int.{w64, int_gap}
use Rattle.std.proofs.lemmas.Bool.{cases_lt}
use Rattle.std.specs.Int.RustNames.{unsigned_abs}
use Rattle.std.specs.List.{flat_map, range_with_len, slice_get}
use Rattle.std.proofs.lemmas.Int.{ints}
use Rattle.std.proofs.lemmas.List.{length-map, get_or-map, get_or_append_left, get_or-append-add}
use Rattle.std.proofs.lemmas.Option.{slice_get-get_or, same_Some}
use Rattle.std.proofs.Math.Nat.{mul-le-mul_right}
use Rattle.ras_domain.specs.declared.region.Interval.{Interval}
use Rattle.ras_domain.specs.Region.{HasSmallBounds, IsIn, IsRegion, extent_of, points_of, place_in_rows}
use Rattle.ras_domain.proofs.Points.{int_gap_is, length-points_of}
use Rattle.ras_domain.proofs.RowOrder.{place_in_rows-at}
use Rattle.ras_tile.specs.Stored.{along}

-- ---- the place of a point, axis by axis

-- the k-th point of the j-th of the pieces that begin with one coordinate each
get_or-pieces : (g : ℕ → ℤ) (ps : List (List ℤ)) (a n j k : ℕ) → j < n → k < length ps
    → get_or (flat_map (λ c. map (λ p. c ∷ p) ps) (map g (range_with_len a n))) (j * length ps + k) [] ≡ g (a + j) ∷ get_or ps k []
get_or-pieces g ps a zero j k h below = absurd (omega arith)
get_or-pieces g ps a (suc n) zero k h below =
    let same : 0 * length ps + k ≡ k = omega arith in
    let here : a + 0 ≡ a = omega arith in
    rw (same, here) (get_or_append_left (map (λ q. g a ∷ q) ps) _ [] k (omega (arith, length-map ps (λ q. g a ∷ q)))
    ∙ get_or-map (λ q. g a ∷ q) ps k [] [] below)
get_or-pieces g ps a (suc n) (suc j) k h below =
    let more : a + suc j ≡ a + 1 + j = omega arith in
    let reach : suc j * length ps + k ≡ length (map (λ q. g a ∷ q) ps) + (j * length ps + k) = omega (arith, length-map ps (λ q. g a ∷ q)) in
    rw (more, reach) (get_or-append-add (map (λ q. g a ∷ q) ps) _ (j * length ps + k) [] ∙ get_or-pieces g ps (a + 1) n j k (omega arith) below)

-- how many points come before p
row_number : List Interval → List ℤ → ℕ
row_number [] p = 0
row_number (axis ∷ axes) [] = 0
row_number (axis ∷ axes) (c ∷ p) = int_gap axis.lo c * length (points_of axes) + row_number axes p

-- they are fewer than all
row_number-within : (axes : List Interval) (p : List ℤ) → IsIn p axes → row_number axes p < length (points_of axes)
unfolding row_number
row_number-within [] [] inside = omega arith
row_number-within [] (c ∷ p) inside = absurd inside
row_number-within (axis ∷ axes) [] inside = absurd inside
row_number-within (axis ∷ axes) (c ∷ p) inside =
    let far : int_gap axis.lo c + 1 ≤ extent_of axis = omega (arith, ints, inside.0, inside.1, int_gap_is axis.lo c, int_gap_is axis.lo (axis.hi +ℤ pos 1)) in
    omega (arith, length-points_of axis axes, row_number-within axes p inside.2, mul-le-mul_right (length (points_of axes)) far)

-- and p stands behind them
get_or-row_number : (axes : List Interval) (p : List ℤ) → IsIn p axes → get_or (points_of axes) (row_number axes p) [] ≡ p
unfolding row_number
get_or-row_number [] [] inside = refl
get_or-row_number [] (c ∷ p) inside = absurd inside
get_or-row_number (axis ∷ axes) [] inside = absurd inside
get_or-row_number (axis ∷ axes) (c ∷ p) inside =
    let far : int_gap axis.lo c < extent_of axis = omega (arith, ints, inside.0, inside.1, int_gap_is axis.lo c, int_gap_is axis.lo (axis.hi +ℤ pos 1)) in
    let reached : axis.lo +ℤ pos (0 + int_gap axis.lo c) ≡ c = omega (arith, ints, inside.0, int_gap_is axis.lo c) in
    rw (reached, get_or-row_number axes p inside.2) at
    (get_or-pieces (λ i. axis.lo +ℤ pos i) (points_of axes) 0 (extent_of axis) (int_gap axis.lo c) (row_number axes p) far (row_number-within axes p inside.2))

slice_get-row_number : (axes : List Interval) (p : List ℤ) → IsIn p axes → slice_get (points_of axes) (row_number axes p) ≡ Some p
slice_get-row_number axes p inside =
    slice_get-get_or (points_of axes) (row_number axes p) [] (row_number-within axes p inside) ∙ ap (λ q. Some q) (get_or-row_number axes p inside)

-- so it is the place of p
place_in_rows-is : (axes : List Interval) (p : List ℤ) → IsIn p axes → place_in_rows axes p ≡ row_number axes p
place_in_rows-is axes p inside = place_in_rows-at axes (row_number axes p) p (slice_get-row_number axes p inside)

-- a point of the box stands at its place
pub slice_get-place : (axes : List Interval) (p : List ℤ) → IsIn p axes → slice_get (points_of axes) (place_in_rows axes p) ≡ Some p
slice_get-place axes p inside = rw (place_in_rows-is axes p inside) (slice_get-row_number axes p inside)

-- and the place is below their number
pub place-within : (axes : List Interval) (p : List ℤ) → IsIn p axes → place_in_rows axes p < length (points_of axes)
place-within axes p inside = rw (place_in_rows-is axes p inside) (row_number-within axes p inside)

-- points at one place are one point
pub place-one : (axes : List Interval) (p q : List ℤ) → IsIn p axes → IsIn q axes → place_in_rows axes p ≡ place_in_rows axes q → p ≡ q
place-one axes p q inside within same =
    same_Some p q (sym (slice_get-place axes p inside) ∙ ap (slice_get (points_of axes)) same ∙ slice_get-place axes q within)

-- ---- along the last axis

-- the place moves by as much as the point
row_number-along : (axes : List Interval) (p : List ℤ) (k : ℕ) → 0 < length axes → IsIn p axes → row_number axes (along p k) ≡ row_number axes p + k
unfolding row_number
row_number-along [] p k some inside = absurd (omega arith)
row_number-along (axis ∷ axes) [] k some inside = absurd inside
row_number-along (axis ∷ []) (c ∷ []) k some inside =
    omega (arith, ints, inside.0, int_gap_is axis.lo c, int_gap_is axis.lo (c +ℤ pos k))
row_number-along (axis ∷ []) (c ∷ d ∷ p) k some inside = absurd inside.2
row_number-along (axis ∷ b ∷ axes) (c ∷ []) k some inside = absurd inside.2
row_number-along (axis ∷ b ∷ axes) (c ∷ d ∷ p) k some inside =
    omega (arith, row_number-along (b ∷ axes) (d ∷ p) k (omega arith) inside.2)

pub place-along : (axes : List Interval) (p : List ℤ) (k : ℕ) → 0 < length axes → IsIn p axes → IsIn (along p k) axes → place_in_rows axes (along p k) ≡ place_in_rows axes p + k
place-along axes p k some inside within =
    rw (place_in_rows-is axes p inside, place_in_rows-is axes (along p k) within) (row_number-along axes p k some inside)

-- what lies between two points of a row is in the box too
pub IsIn-along : (axes : List Interval) (p : List ℤ) (j k : ℕ) → IsIn p axes → IsIn (along p k) axes → j ≤ k → IsIn (along p j) axes
IsIn-along [] [] j k inside within le = tt
IsIn-along [] (c ∷ p) j k inside within le = absurd inside
IsIn-along (axis ∷ axes) [] j k inside within le = absurd inside
IsIn-along (axis ∷ axes) (c ∷ []) j k inside within le =
    (omega (arith, ints, inside.0), omega (arith, ints, within.1), inside.2)
IsIn-along (axis ∷ []) (c ∷ d ∷ p) j k inside within le = absurd inside.2
IsIn-along (axis ∷ b ∷ axes) (c ∷ d ∷ p) j k inside within le =
    (inside.0, inside.1, IsIn-along (b ∷ axes) (d ∷ p) j k inside.2 within.2 le)

-- a point whose place lies among those of a row is of that row
pub among_row : (axes : List Interval) (p q : List ℤ) (k : ℕ) → 0 < length axes → IsIn p axes → IsIn (along p k) axes → IsIn q axes
    → place_in_rows axes p ≤ place_in_rows axes q → place_in_rows axes q ≤ place_in_rows axes p + k → q ≡ along p (place_in_rows axes q - place_in_rows axes p)
among_row axes p q k some inside within here low high =
    let j : ℕ = place_in_rows axes q - place_in_rows axes p in
    let at : IsIn (along p j) axes = IsIn-along axes p j k inside within (omega arith) in
    place-one axes q (along p j) here at (omega (arith, place-along axes p j some inside at))

-- the last coordinate lies in the last interval, and made its upper bound it moves the point along
record IsLast (axes : List Interval) (p : List ℤ) (n : ℕ) (d : Interval) (c upper : ℤ) : Type 0 where
  low : (get_or axes n d).lo ≤ℤ c
  high : c ≤ℤ (get_or axes n d).hi
  moved : set p n upper ≡ along p (unsigned_abs (upper -ℤ c))
  within : IsIn (set p n upper) axes

IsLast-at : (axes : List Interval) (p : List ℤ) (n : ℕ) (d : Interval) (e upper : ℤ) → IsIn p axes → suc n ≡ length axes → upper ≡ (get_or axes n d).hi
    → IsLast axes p n d (get_or p n e) upper
IsLast-at [] p n d e upper inside count is = absurd (omega arith)
IsLast-at (axis ∷ axes) [] n d e upper inside count is = absurd inside
IsLast-at (axis ∷ []) (c ∷ []) zero d e upper inside count is =
    let reached : upper ≡ c +ℤ pos (unsigned_abs (upper -ℤ c)) = omega (arith, ints, inside.1, is) in
    record {
      low = inside.0;
      high = inside.1;
      moved = ap (λ z. z ∷ []) reached;
      within = (omega (arith, ints, inside.0, inside.1, is), omega (arith, ints, is), tt);
    }
IsLast-at (axis ∷ b ∷ axes) (c ∷ []) n d e upper inside count is = absurd inside.2
IsLast-at (axis ∷ []) (c ∷ z ∷ p) n d e upper inside count is = absurd inside.2
IsLast-at (axis ∷ []) (c ∷ []) (suc n) d e upper inside count is = absurd (omega arith)
IsLast-at (axis ∷ b ∷ axes) (c ∷ z ∷ p) zero d e upper inside count is = absurd (omega arith)
IsLast-at (axis ∷ b ∷ axes) (c ∷ z ∷ p) (suc n) d e upper inside count is =
    let rest : IsLast (b ∷ axes) (z ∷ p) n d (get_or (z ∷ p) n e) upper = IsLast-at (b ∷ axes) (z ∷ p) n d e upper inside.2 (omega arith) is in
    record {
      low = rest.low;
      high = rest.high;
      moved = ap (λ q. c ∷ q) rest.moved;
      within = (inside.0, inside.1, rest.within);
    }

-- so the code's arithmetic gives, at bounds of 32 bits
pub moved_to_upper : (axes : List Interval) (p : List ℤ) (n steps : ℕ) (d : Interval) (e : ℤ) → IsRegion axes → IsIn p axes → n ≡ length axes - 1
    → steps ≡ unsigned_abs (to_z w64 (of_z w64 (get_or axes n d).hi) -ℤ to_z w64 (of_z w64 (get_or p n e)))
    → (set p n (to_z w64 (of_z w64 (get_or axes n d).hi)) ≡ along p steps) × IsIn (set p n (to_z w64 (of_z w64 (get_or axes n d).hi))) axes
moved_to_upper axes p n steps d e region inside back count =
    let upper : ℤ = (get_or axes n d).hi in
    let c : ℤ = get_or p n e in
    let within : n < length axes = omega (arith, region.some_axes) in
    let small : HasSmallBounds (get_or axes n d) = region.small_bounds n d within in
    let last : IsLast axes p n d c upper = IsLast-at axes p n d e upper inside (omega (arith, region.some_axes)) refl in
    let read : to_z w64 (of_z w64 upper) ≡ upper = omega (arith, ints, small.1) in
    let own : to_z w64 (of_z w64 c) ≡ c = omega (arith, ints, small.0, small.1, last.low, last.high) in
    rw (count, read, own) (last.moved, last.within)

-- ---- the points of a row, and the others

-- a point is one of the row from p to k further on, or its place lies before or behind theirs
pub row_or_apart : (axes : List Interval) (p q : List ℤ) (k : ℕ) → 0 < length axes → IsIn p axes → IsIn (along p k) axes → IsIn q axes
    → ((j : ℕ) × (j < k + 1) × (q ≡ along p j)) ⊎ ((place_in_rows axes q < place_in_rows axes p) ⊎ (place_in_rows axes p + (k + 1) ≤ place_in_rows axes q))
row_or_apart axes p q k some inside within here =
    elim (cases_lt (place_in_rows axes q) (place_in_rows axes p)) [
      | inl less ↦ inr (inl less)
      | inr low ↦ elim (cases_lt (place_in_rows axes q) (place_in_rows axes p + (k + 1))) [
        | inl high ↦
            let j : ℕ = place_in_rows axes q - place_in_rows axes p in
            let few : j < k + 1 = omega arith in
            inl (j, few, among_row axes p q k some inside within here (omega arith) (omega arith))
        | inr more ↦ inr (inr (omega arith))
      ]
    ]
