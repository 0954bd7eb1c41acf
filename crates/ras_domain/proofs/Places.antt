-- Where the points of a box lie in row-major order.
use Rattle.std.proofs.Common.{◌≡◌, ℕ, zero, suc, ◌+◌, ◌-◌, ◌*◌, ◌/◌, ◌%◌, ◌^◌, ◌<◌, ◌≤◌, ℤ, pos, ◌+ℤ◌, ◌-ℤ◌, ◌≤ℤ◌, ◌<ℤ◌, List, [], ◌∷◌, ◌++◌, map, length, min, get_or, set, take, drop, Some, None, refl, sym, ◌∙◌, ap, All, true, false, to_z, of_z, arith, append_assoc}
use Rattle.std.specs.List.{slice_get, flat_map, range_with_len}
use Rattle.std.specs.Option.{option_map}
use Rattle.std.specs.Int.{int_gap, w32, w64}
use Rattle.std.specs.Int.RustNames.{unsigned_abs, FitsSigned}
use lib.Signed.{lt_z}
use Rattle.std.proofs.lemmas.Int.{ints}
use Rattle.std.proofs.lemmas.List.{length-map, append-nil, drop-set, drop_more, drop_all, get_or_default, take_more, take_all, take-append-drop, length-take-le, get_or_at, set_at, length-set}
use Rattle.std.proofs.lemmas.Nat.{mod_below}
use Rattle.std.proofs.Math.Nat.{mul-le-mul_left, mul-le-mul_right, div-div-eq-div-mul, mod-eq_of_lt}
use Rattle.std.proofs.Math.Arith.{mod-mul}
use Rattle.std.proofs.lemmas.List.Elements.{All-head, All-tail, All-drop}
use Rattle.std.proofs.lemmas.Option.{slice_get-map, slice_get_within, slice_get_past}
use Rattle.ras_domain.specs.Region.{HasSmallBounds, IsOrdered, IsIn, IsRegion, extent_of, points_of}
use Rattle.ras_domain.specs.declared.region.Interval.{Interval}
use Rattle.ras_domain.proofs.RowOrder.{place_in_rows-at}
use Rattle.ras_domain.proofs.Points.{length-points_of, length-from_IsIn, int_gap_is, one-le-extent_of, one-le-length-points_of}

-- an element of the first of two joined lists
slice_get-append_left : {A : Type 0} (xs ys : List A) (k : ℕ) → k < length xs → slice_get (xs ++ ys) k ≡ slice_get xs k
slice_get-append_left [] ys k h = absurd (omega arith)
slice_get-append_left (x ∷ xs) ys zero h = refl
slice_get-append_left (x ∷ xs) ys (suc k) h = slice_get-append_left xs ys k (omega arith)

-- an element of the second of two joined lists
slice_get-append-add : {A : Type 0} (xs ys : List A) (k n : ℕ) → n ≡ length xs + k → slice_get (xs ++ ys) n ≡ slice_get ys k
slice_get-append-add [] ys k n e = ap (slice_get ys) (omega arith)
slice_get-append-add (x ∷ xs) ys k zero e = absurd (omega arith)
slice_get-append-add (x ∷ xs) ys k (suc n) e = slice_get-append-add xs ys k n (omega arith)

-- the k-th point of the j-th of the pieces that begin with one coordinate each
slice_get-pieces : (g : ℕ → ℤ) (ps : List (List ℤ)) (a n j k place : ℕ) (p : List ℤ) → j < n → place ≡ j * length ps + k → slice_get ps k ≡ Some p
    → slice_get (flat_map (λ c. map (λ p. c ∷ p) ps) (map g (range_with_len a n))) place ≡ Some (g (a + j) ∷ p)
slice_get-pieces g ps a zero j k place p h e at = absurd (omega arith)
slice_get-pieces g ps a (suc n) zero k place p h e at =
    let l : k < length ps = slice_get_within ps k p at in
    let same : place ≡ k = omega arith in
    let here : a + 0 ≡ a = omega arith in
    rw (same, here) (slice_get-append_left (map (λ q. g a ∷ q) ps) _ k (omega (arith, length-map ps (λ q. g a ∷ q)))
    ∙ slice_get-map (λ q. g a ∷ q) ps k ∙ ap (option_map (λ q. g a ∷ q)) at)
slice_get-pieces g ps a (suc n) (suc j) k place p h e at =
    let more : a + suc j ≡ a + 1 + j = omega arith in
    rw more (slice_get-append-add (map (λ q. g a ∷ q) ps) _ (j * length ps + k) place (omega (arith, length-map ps (λ q. g a ∷ q)))
    ∙ slice_get-pieces g ps (a + 1) n j k (j * length ps + k) p (omega arith) refl at)

-- the point whose first coordinate is the j-th and whose others are the k-th point of the other axes
slice_get-points_of : (axis : Interval) (axes : List Interval) (j k place : ℕ) (p : List ℤ) → j < extent_of axis → place ≡ j * length (points_of axes) + k
    → slice_get (points_of axes) k ≡ Some p → slice_get (points_of (axis ∷ axes)) place ≡ Some ((axis.lo +ℤ pos j) ∷ p)
slice_get-points_of axis axes j k place p h e at =
    let none : 0 + j ≡ j = omega arith in
    rw none at (slice_get-pieces (λ i. axis.lo +ℤ pos i) (points_of axes) 0 (extent_of axis) j k place p h e at)

-- how far a coordinate lies above the lower bound
offset_within : (lo hi c : ℤ) → lo ≤ℤ c → c ≤ℤ hi → unsigned_abs (c -ℤ lo) < int_gap lo (hi +ℤ pos 1)
offset_within lo hi c h g = omega (arith, ints, int_gap_is lo (hi +ℤ pos 1))

offset_is : (lo c : ℤ) → lo ≤ℤ c → lo +ℤ pos (unsigned_abs (c -ℤ lo)) ≡ c
offset_is lo c h = omega (arith, ints)

-- the lower bounds are the first point
pub slice_get-points_of_first : (axes : List Interval) → All IsOrdered axes → slice_get (points_of axes) 0 ≡ Some (map (λ axis. axis.lo) axes)
slice_get-points_of_first [] ordered = refl
slice_get-points_of_first (axis ∷ axes) ordered =
    let none : axis.lo +ℤ pos 0 ≡ axis.lo = omega (arith, ints) in
    rw none at (slice_get-points_of axis axes 0 0 0 (map (λ a. a.lo) axes) (one-le-extent_of axis (All-head IsOrdered axis axes ordered)) (omega arith)
    (slice_get-points_of_first axes (All-tail IsOrdered axis axes ordered)))

-- ---- the points that begin with the same coordinates

-- `front` leads from the `rest` of the axes to all of them: with `place` points before it, each of the rest's points comes behind it
pub record IsFront (axes : List Interval) (place : ℕ) (front : List ℤ) (rest : List Interval) : Type 0 where
  pub leads : (k : ℕ) (q : List ℤ) → slice_get (points_of rest) k ≡ Some q → slice_get (points_of axes) (place * length (points_of rest) + k) ≡ Some (front ++ q)
  pub fits : (place + 1) * length (points_of rest) ≤ length (points_of axes)

-- before the first coordinate
IsFront-none : (axes : List Interval) → IsFront axes 0 [] axes
IsFront-none axes = record {
  leads = λ k q e. let same : 0 * length (points_of axes) + k ≡ k = omega arith in rw same e;
  fits = omega arith;
}

-- one more coordinate
IsFront-more : (axes rest : List Interval) (axis : Interval) (place j : ℕ) (front : List ℤ) → IsFront axes place front (axis ∷ rest) → j < extent_of axis
    → IsFront axes (place * extent_of axis + j) (front ++ (axis.lo +ℤ pos j) ∷ []) rest
IsFront-more axes rest axis place j front h below = record {
  leads = λ k q e.
      let n : ℕ = length (points_of rest) in
      let long : length (points_of (axis ∷ rest)) ≡ extent_of axis * n = length-points_of axis rest in
      let sum : (place * extent_of axis + j) * n + k ≡ place * length (points_of (axis ∷ rest)) + (j * n + k) = rw long (omega arith) in
      let joined : front ++ ((axis.lo +ℤ pos j) ∷ []) ++ q ≡ front ++ ((axis.lo +ℤ pos j) ∷ q) = append_assoc front ((axis.lo +ℤ pos j) ∷ []) q in
      rw (sum, joined) (h.leads (j * n + k) ((axis.lo +ℤ pos j) ∷ q) (slice_get-points_of axis rest j k (j * n + k) q below refl e));
  fits =
      let n : ℕ = length (points_of rest) in
      let all : (place + 1) * (extent_of axis * n) ≤ length (points_of axes) = rw length-points_of at h.fits in
      omega (arith, all, mul-le-mul_right n below);
}

-- behind the last coordinate
IsFront-all : (axes : List Interval) (place : ℕ) (front : List ℤ) → IsFront axes place front [] → slice_get (points_of axes) place ≡ Some front
IsFront-all axes place front h =
    let same : place * length (points_of []) + 0 ≡ place = omega arith in
    rw (same, append-nil front) at (h.leads 0 [] refl)

-- ---- the points that end with the same coordinates

-- the last axes, from i on, have the coordinates that `place` gives them, and `left` is what it gives to the axes before them
pub record IsBack (axes : List Interval) (place i left : ℕ) (point : List ℤ) : Type 0 where
  pub among : i ≤ length axes
  pub long : length point ≡ length axes
  pub placed : slice_get (points_of (drop i axes)) (place % length (points_of (drop i axes))) ≡ Some (drop i point)
  pub above : left ≡ place / length (points_of (drop i axes))

-- one axis more
IsBack-more : (axes : List Interval) (place i left : ℕ) (point : List ℤ) (axis : Interval) → IsBack axes place (i + 1) left point → All IsOrdered axes → axis ≡ get_or axes i axis
    → IsBack axes place i (left / extent_of axis) (set point i (axis.lo +ℤ pos (left % extent_of axis)))
IsBack-more axes place i left point axis h ordered at =
    let rest : List Interval = drop (i + 1) axes in
    let n : ℕ = length (points_of rest) in
    let split : drop i axes ≡ axis ∷ rest = drop_more axes i axis (omega (arith, h.among)) ∙ ap (λ a. a ∷ rest) (sym at) in
    let here : All IsOrdered (axis ∷ rest) = rw split at (All-drop IsOrdered i axes ordered) in
    let wide : 0 < extent_of axis = one-le-extent_of axis (All-head IsOrdered axis rest here) in
    let some : 0 < n = one-le-length-points_of rest (All-tail IsOrdered axis rest here) in
    let count : length (points_of (axis ∷ rest)) ≡ extent_of axis * n = length-points_of axis rest in
    record {
      among = omega (arith, h.among);
      long = length-set point i _ ∙ h.long;
      placed = rw (split, drop-set point i (axis.lo +ℤ pos (left % extent_of axis)) (omega (arith, h.among, h.long)))
          (slice_get-points_of axis rest (left % extent_of axis) (place % n) (place % length (points_of (axis ∷ rest))) (drop (i + 1) point)
          (mod_below left (extent_of axis) wide)
          (rw (count, h.above) (mod-mul place wide some))
          h.placed);
      above = rw (split, count, h.above) (div-div-eq-div-mul place n (extent_of axis) ∙ ap (λ m. place / m) (omega arith));
    }

-- at the first axis
pub IsBack-all : (axes : List Interval) (place left : ℕ) (point : List ℤ) → IsBack axes place 0 left point → place < length (points_of axes) → slice_get (points_of axes) place ≡ Some point
IsBack-all axes place left point h below = rw (mod-eq_of_lt below) at h.placed

-- ---- the coordinates of a point of the box

-- each coordinate lies within its interval
IsIn-at : (p : List ℤ) (axes : List Interval) (i : ℕ) (c : ℤ) (axis : Interval) → IsIn p axes → i < length axes → c ≡ get_or p i c → axis ≡ get_or axes i axis
    → (axis.lo ≤ℤ c) × (c ≤ℤ axis.hi)
IsIn-at [] axes i c axis h below at here = absurd (omega (arith, length-from_IsIn [] axes h))
IsIn-at (b ∷ p) [] i c axis h below at here = absurd h
IsIn-at (b ∷ p) (a ∷ axes) zero c axis h below at here = rw (at, here) (h.0, h.1)
IsIn-at (b ∷ p) (a ∷ axes) (suc i) c axis h below at here = IsIn-at p axes i c axis h.2 (omega arith) at here

-- ---- what the code's arithmetic gives, at bounds of 32 bits

-- a coordinate's offset
offset_read : (lo hi c : ℤ) → FitsSigned w32 lo → FitsSigned w32 hi → lo ≤ℤ c → c ≤ℤ hi
    → unsigned_abs (to_z w64 (of_z w64 c) -ℤ to_z w64 (of_z w64 lo)) ≡ unsigned_abs (c -ℤ lo)
offset_read lo hi c low high h g = omega (arith, ints)

-- a coordinate at an offset
coordinate_read : (lo : ℤ) (n : ℕ) → FitsSigned w32 lo → n < 2 ^ 33 → to_z w64 (of_z w64 (to_z w64 (of_z w64 lo) +ℤ to_z w64 n)) ≡ lo +ℤ pos n
coordinate_read lo n low h = omega (arith, ints)

-- an extent is small
extent_of-small : (axis : Interval) → HasSmallBounds axis → extent_of axis ≤ 2 ^ 32
extent_of-small axis h = omega (arith, ints, int_gap_is axis.lo (axis.hi +ℤ pos 1), h.0, h.1)

-- ---- one turn of a walk over the axes of a region, from the first one or from the last

-- the next coordinate of a point of the box
pub IsFront-turn : (axes : List Interval) (p : List ℤ) (n m place extent offset : ℕ) (axis : Interval) (c : ℤ) → IsRegion axes → IsIn p axes
    → IsFront axes place (take n p) (drop n axes) → n < length axes → m ≡ n + 1 → axis ≡ get_or axes n axis → c ≡ get_or p n c
    → extent ≡ extent_of axis → offset ≡ unsigned_abs (to_z w64 (of_z w64 c) -ℤ to_z w64 (of_z w64 axis.lo))
    → IsFront axes (place * extent + offset) (take m p) (drop m axes)
IsFront-turn axes p n m place extent offset axis c region inside h below next here at wide far =
    let split : drop n axes ≡ axis ∷ drop (n + 1) axes = drop_more axes n axis below ∙ ap (λ a. a ∷ drop (n + 1) axes) (sym here) in
    let front : take (n + 1) p ≡ take n p ++ c ∷ [] = take_more p n c (omega (arith, length-from_IsIn p axes inside)) ∙ ap (λ b. take n p ++ b ∷ []) (sym at) in
    let small : HasSmallBounds axis = rw (← here) at (region.small_bounds n axis below) in
    let bounds : (axis.lo ≤ℤ c) × (c ≤ℤ axis.hi) = IsIn-at p axes n c axis inside below at here in
    let off : ℕ = unsigned_abs (c -ℤ axis.lo) in
    let more : IsFront axes (place * extent_of axis + off) (take n p ++ (axis.lo +ℤ pos off) ∷ []) (drop (n + 1) axes) =
    IsFront-more axes (drop (n + 1) axes) axis place off (take n p) (rw split at h) (offset_within axis.lo axis.hi c bounds.0 bounds.1) in
    rw (next, front, wide, far, offset_read axis.lo axis.hi c small.0 small.1 bounds.0 bounds.1) (rw (offset_is axis.lo c bounds.0) at more)

-- a place in a region is small
pub IsFront-small : (axes : List Interval) (n place : ℕ) (front : List ℤ) → IsFront axes place front (drop n axes) → IsRegion axes → place < 2 ^ 24
IsFront-small axes n place front h region =
    let some : 1 ≤ length (points_of (drop n axes)) = one-le-length-points_of (drop n axes) (All-drop IsOrdered n axes region.ordered) in
    omega (arith, h.fits, region.few_points, mul-le-mul_left (place + 1) some)

-- with the next extent it stays small
pub IsFront-room : (axes : List Interval) (n place extent : ℕ) (front : List ℤ) (axis : Interval) → IsRegion axes → IsFront axes place front (drop n axes) → n < length axes
    → axis ≡ get_or axes n axis → extent ≡ extent_of axis → place * extent < 2 ^ 24
IsFront-room axes n place extent front axis region h below here wide =
    let split : drop n axes ≡ axis ∷ drop (n + 1) axes = drop_more axes n axis below ∙ ap (λ a. a ∷ drop (n + 1) axes) (sym here) in
    let one : 0 < extent_of axis = one-le-extent_of axis (rw (← here) at (region.ordered n axis below)) in
    let more : IsFront axes (place * extent_of axis + 0) (front ++ (axis.lo +ℤ pos 0) ∷ []) (drop (n + 1) axes) =
    IsFront-more axes (drop (n + 1) axes) axis place 0 front (rw split at h) one in
    rw wide (omega (arith, IsFront-small axes (n + 1) (place * extent_of axis + 0) _ more region))

-- after the last coordinate
pub IsFront-end : (axes : List Interval) (p : List ℤ) (n place : ℕ) → IsIn p axes → IsFront axes place (take n p) (drop n axes) → n ≡ min (length axes) (length p)
    → slice_get (points_of axes) place ≡ Some p
IsFront-end axes p n place inside h all =
    let same : length p ≡ length axes = length-from_IsIn p axes inside in
    let whole : take n p ≡ p = take_all n p (omega arith) in
    let none : drop n axes ≡ [] = drop_all n axes (omega arith) in
    IsFront-all axes place p (rw (whole, none) at h)

-- one axis more from the back
pub IsBack-turn : (axes : List Interval) (place n left extent : ℕ) (point : List ℤ) (d : Interval) → IsRegion axes → IsBack axes place n left point → 0 < n
    → extent ≡ extent_of (get_or axes (n - 1) d)
    → IsBack axes place (n - 1) (left / extent) (set point (n - 1) (to_z w64 (of_z w64 (to_z w64 (of_z w64 (get_or axes (n - 1) d).lo) +ℤ to_z w64 (left % extent)))))
IsBack-turn axes place n left extent point d region h some wide =
    let i : ℕ = n - 1 in
    let axis : Interval = get_or axes i d in
    let next : n ≡ i + 1 = omega arith in
    let below : i < length axes = omega (arith, h.among) in
    let small : HasSmallBounds axis = region.small_bounds i d below in
    let one : 1 ≤ extent_of axis = one-le-extent_of axis (region.ordered i d below) in
    let few : left % extent_of axis < 2 ^ 33 = omega (arith, mod_below left (extent_of axis) one, extent_of-small axis small) in
    rw (wide, coordinate_read axis.lo (left % extent_of axis) small.0 few)
    (IsBack-more axes place i left point axis (rw next at h) region.ordered (get_or_default axes i d axis below))

-- a coordinate is read as it is, and one more too where it is below the upper bound
below_read : (lo hi c : ℤ) → FitsSigned w32 lo → FitsSigned w32 hi → lo ≤ℤ c → c ≤ℤ hi → lt_z (to_z w64 (of_z w64 c)) (to_z w64 (of_z w64 hi)) ≡ true
    → (c <ℤ hi) × (to_z w64 (of_z w64 (to_z w64 (of_z w64 c) +ℤ pos 1)) ≡ c +ℤ pos 1)
below_read lo hi c low high h g test =
    let plain : to_z w64 (of_z w64 c) ≡ c = omega (arith, ints) in
    let bound : to_z w64 (of_z w64 hi) ≡ hi = omega (arith, ints) in
    let less : lt_z c hi ≡ true = rw (plain, bound) at test in
    let below : c <ℤ hi = grind (arith, ints) in
    (below, omega (arith, ints))

-- where it is not, it is the upper bound
not_below_read : (lo hi c : ℤ) → FitsSigned w32 lo → FitsSigned w32 hi → lo ≤ℤ c → c ≤ℤ hi → lt_z (to_z w64 (of_z w64 c)) (to_z w64 (of_z w64 hi)) ≡ false → hi ≤ℤ c
not_below_read lo hi c low high h g test =
    let plain : to_z w64 (of_z w64 c) ≡ c = omega (arith, ints) in
    let bound : to_z w64 (of_z w64 hi) ≡ hi = omega (arith, ints) in
    let less : lt_z c hi ≡ false = rw (plain, bound) at test in
    grind (arith, ints)

-- ---- one step from a point to the next

-- the first coordinates of a point of the box lead to it
leads_to : (axes : List Interval) (p : List ℤ) (n : ℕ) → IsRegion axes → IsIn p axes → n ≤ length axes → (place : ℕ) × IsFront axes place (take n p) (drop n axes)
leads_to axes p zero region inside h = (0, IsFront-none axes)
leads_to axes p (suc n) region inside h =
    let before : (place : ℕ) × IsFront axes place (take n p) (drop n axes) = leads_to axes p n region inside (omega arith) in
    let axis : Interval = get_or axes n (record { lo = pos 0; hi = pos 0 }) in
    let c : ℤ = get_or p n (pos 0) in (
      _,
      IsFront-turn axes p n (suc n) before.0 (extent_of axis) _ axis c region inside before.1 (omega arith) (omega arith)
          (get_or_default axes n _ axis (omega arith)) (get_or_default p n (pos 0) c (omega (arith, length-from_IsIn p axes inside))) refl refl,
    )

-- from the axis i on, `old` has the upper bounds and `point` the lower ones
pub record IsCarried (axes : List Interval) (old : List ℤ) (i : ℕ) (point : List ℤ) : Type 0 where
  pub among : i ≤ length axes
  pub long : length point ≡ length axes
  pub lows : point ≡ take i old ++ map (λ axis. axis.lo) (drop i axes)
  pub last : (k : ℕ) → k + 1 ≡ length (points_of (drop i axes)) → slice_get (points_of (drop i axes)) k ≡ Some (drop i old)

-- before the last axis
pub IsCarried-none : (axes : List Interval) (old : List ℤ) → IsIn old axes → IsCarried axes old (length axes) old
IsCarried-none axes old inside =
    let long : length old ≡ length axes = length-from_IsIn old axes inside in
    let none : drop (length axes) axes ≡ [] = drop_all (length axes) axes (omega arith) in
    let gone : drop (length axes) old ≡ [] = drop_all (length axes) old (omega arith) in
    let whole : take (length axes) old ≡ old = take_all (length axes) old (omega arith) in
    record {
      among = omega arith;
      long = long;
      lows = rw (none, whole) (sym (append-nil old));
      last = rw (none, gone) (λ k e. let first : k ≡ 0 = omega arith in rw first);
    }

-- the next axis from the back, on which `point` still has the coordinate c of `old`
record IsNext (axes : List Interval) (old : List ℤ) (i : ℕ) (point : List ℤ) (axis : Interval) (c : ℤ) : Type 0 where
  among : i < length axes
  within : i < length old
  long : length point ≡ length axes
  small : HasSmallBounds axis
  low : axis.lo ≤ℤ c
  high : c ≤ℤ axis.hi
  lows : point ≡ take i old ++ (c ∷ map (λ a. a.lo) (drop (i + 1) axes))
  axes_from : drop i axes ≡ axis ∷ drop (i + 1) axes
  old_from : drop i old ≡ c ∷ drop (i + 1) old
  some : 1 ≤ length (points_of (drop (i + 1) axes))
  last : (k : ℕ) → k + 1 ≡ (unsigned_abs (c -ℤ axis.lo) + 1) * length (points_of (drop (i + 1) axes))
      → slice_get (points_of (axis ∷ drop (i + 1) axes)) k ≡ Some (c ∷ drop (i + 1) old)

IsCarried-next : (axes : List Interval) (old : List ℤ) (n : ℕ) (point : List ℤ) (d : Interval) (e : ℤ) → IsRegion axes → IsIn old axes → IsCarried axes old n point → 0 < n
    → IsNext axes old (n - 1) point (get_or axes (n - 1) d) (get_or point (n - 1) e)
IsCarried-next axes old n point d e region inside carried positive =
    let i : ℕ = n - 1 in
    let following : n ≡ i + 1 = omega arith in
    let h : IsCarried axes old (i + 1) point = rw following at carried in
    let axis : Interval = get_or axes i d in
    let c : ℤ = get_or point i e in
    let b : ℤ = get_or old i (pos 0) in
    let rest : List Interval = drop (i + 1) axes in
    let lows : List ℤ = map (λ a. a.lo) rest in
    let among : i < length axes = omega (arith, h.among) in
    let within : i < length old = omega (arith, among, length-from_IsIn old axes inside) in
    let reads : point ≡ take i old ++ (b ∷ lows) = h.lows ∙ ap (λ xs. xs ++ lows) (take_more old i (pos 0) within) ∙ append_assoc (take i old) (b ∷ []) lows in
    let same : c ≡ b = ap (λ xs. get_or xs i e) reads ∙ get_or_at (take i old) b lows e i (length-take-le i old (omega arith)) in
    let was : c ≡ get_or old i c = same ∙ get_or_default old i (pos 0) c within in
    let here : axis ≡ get_or axes i axis = get_or_default axes i d axis among in
    let bounds : (axis.lo ≤ℤ c) × (c ≤ℤ axis.hi) = IsIn-at old axes i c axis inside among was here in
    let some : 1 ≤ length (points_of rest) = one-le-length-points_of rest (All-drop IsOrdered (i + 1) axes region.ordered) in
    record {
      among = among;
      within = within;
      long = h.long;
      small = region.small_bounds i d among;
      low = bounds.0;
      high = bounds.1;
      lows = rw same reads;
      axes_from = drop_more axes i d among;
      old_from = drop_more old i c within ∙ ap (λ d. d ∷ drop (i + 1) old) (sym was);
      some = some;
      last = λ k e.
          rw (offset_is axis.lo c bounds.0) at
          (slice_get-points_of axis rest (unsigned_abs (c -ℤ axis.lo)) (length (points_of rest) - 1) k (drop (i + 1) old)
          (offset_within axis.lo axis.hi c bounds.0 bounds.1) (omega (arith, e, some)) (h.last (length (points_of rest) - 1) (omega arith)));
    }

-- one axis more, which has its upper bound
IsCarried-more : (axes : List Interval) (old : List ℤ) (i : ℕ) (point : List ℤ) (axis : Interval) (c : ℤ) → IsNext axes old i point axis c → axis.hi ≤ℤ c
    → IsCarried axes old i (set point i axis.lo)
IsCarried-more axes old i point axis c next full =
    let rest : List Interval = drop (i + 1) axes in
    let far : ℕ = unsigned_abs (c -ℤ axis.lo) in
    let wide : extent_of axis ≡ far + 1 = omega (arith, ints, int_gap_is axis.lo (axis.hi +ℤ pos 1), full, next.low, next.high) in
    let count : length (points_of (axis ∷ rest)) ≡ (far + 1) * length (points_of rest) = length-points_of axis rest ∙ ap (λ m. m * length (points_of rest)) wide in
    record {
      among = omega (arith, next.among);
      long = length-set point i axis.lo ∙ next.long;
      lows = rw next.axes_from (ap (λ xs. set xs i axis.lo) next.lows ∙ set_at (take i old) c _ axis.lo i (length-take-le i old (omega (arith, next.within))));
      last = rw (next.axes_from, next.old_from) (λ k e. next.last k (e ∙ count));
    }

-- where the next axis has more coordinates, one more there gives the next point
IsCarried-step : (axes : List Interval) (old : List ℤ) (i : ℕ) (point : List ℤ) (axis : Interval) (c : ℤ) → IsRegion axes → IsIn old axes → IsNext axes old i point axis c → c <ℤ axis.hi
    → (place : ℕ) → slice_get (points_of axes) place ≡ Some old → slice_get (points_of axes) (place + 1) ≡ Some (set point i (c +ℤ pos 1))
IsCarried-step axes old i point axis c region inside next below place was =
    let rest : List Interval = drop (i + 1) axes in
    let lows : List ℤ = map (λ a. a.lo) rest in
    let n : ℕ = length (points_of rest) in
    let far : ℕ = unsigned_abs (c -ℤ axis.lo) in
    let wide : far + 1 < extent_of axis = omega (arith, ints, int_gap_is axis.lo (axis.hi +ℤ pos 1), below, next.low) in
    let more : axis.lo +ℤ pos (far + 1) ≡ c +ℤ pos 1 = omega (arith, ints, next.low) in
    let front : (f : ℕ) × IsFront axes f (take i old) (drop i axes) = leads_to axes old i region inside (omega (arith, next.among)) in
    let lead : IsFront axes front.0 (take i old) (axis ∷ rest) = rw next.axes_from at front.1 in
    let before : ℕ = front.0 * length (points_of (axis ∷ rest)) in
    let here : slice_get (points_of axes) (before + (far * n + (n - 1))) ≡ Some old =
    rw (← next.old_from, take-append-drop i old) at (lead.leads (far * n + (n - 1)) (c ∷ drop (i + 1) old) (next.last (far * n + (n - 1)) (omega (arith, next.some)))) in
    let then_next : slice_get (points_of axes) (before + ((far + 1) * n + 0)) ≡ Some (take i old ++ ((c +ℤ pos 1) ∷ lows)) =
    lead.leads ((far + 1) * n + 0) ((c +ℤ pos 1) ∷ lows)
    (rw more at (slice_get-points_of axis rest (far + 1) 0 ((far + 1) * n + 0) lows wide refl (slice_get-points_of_first rest (All-drop IsOrdered (i + 1) axes region.ordered)))) in
    let same : place ≡ before + (far * n + (n - 1)) = sym (place_in_rows-at axes place old was) ∙ place_in_rows-at axes (before + (far * n + (n - 1))) old here in
    let after : place + 1 ≡ before + ((far + 1) * n + 0) = omega (arith, same, next.some) in
    let written : set point i (c +ℤ pos 1) ≡ take i old ++ ((c +ℤ pos 1) ∷ lows) =
    ap (λ xs. set xs i (c +ℤ pos 1)) next.lows ∙ set_at (take i old) c lows (c +ℤ pos 1) i (length-take-le i old (omega (arith, next.within))) in
    rw (after, written) then_next

-- where no axis has more, the point is the last
pub IsCarried-all : (axes : List Interval) (old point : List ℤ) → IsRegion axes → IsCarried axes old 0 point
    → (place : ℕ) → slice_get (points_of axes) place ≡ Some old → slice_get (points_of axes) (place + 1) ≡ None
IsCarried-all axes old point region h place was =
    let count : ℕ = length (points_of axes) in
    let some : 1 ≤ count = one-le-length-points_of axes region.ordered in
    let at : slice_get (points_of axes) (count - 1) ≡ Some old = h.last (count - 1) (omega arith) in
    let same : place ≡ count - 1 = sym (place_in_rows-at axes place old was) ∙ place_in_rows-at axes (count - 1) old at in
    slice_get_past (points_of axes) (place + 1) (omega arith)

-- the axis from the back that has its upper bound gets the lower one
pub IsCarried-turn : (axes : List Interval) (old : List ℤ) (n : ℕ) (point : List ℤ) (d : Interval) (e : ℤ) → IsRegion axes → IsIn old axes → IsCarried axes old n point → 0 < n
    → lt_z (to_z w64 (of_z w64 (get_or point (n - 1) e))) (to_z w64 (of_z w64 (get_or axes (n - 1) d).hi)) ≡ false
    → IsCarried axes old (n - 1) (set point (n - 1) (to_z w64 (of_z w64 (get_or axes (n - 1) d).lo)))
IsCarried-turn axes old n point d e region inside h positive test =
    let axis : Interval = get_or axes (n - 1) d in
    let c : ℤ = get_or point (n - 1) e in
    let next : IsNext axes old (n - 1) point axis c = IsCarried-next axes old n point d e region inside h positive in
    let read : to_z w64 (of_z w64 axis.lo) ≡ axis.lo = omega (arith, ints, next.small.0) in
    rw read (IsCarried-more axes old (n - 1) point axis c next (not_below_read axis.lo axis.hi c next.small.0 next.small.1 next.low next.high test))

-- and the first from the back that has not gets one more
pub IsCarried-end : (axes : List Interval) (old : List ℤ) (n : ℕ) (point : List ℤ) (d : Interval) (e : ℤ) → IsRegion axes → IsIn old axes → IsCarried axes old n point → 0 < n
    → lt_z (to_z w64 (of_z w64 (get_or point (n - 1) e))) (to_z w64 (of_z w64 (get_or axes (n - 1) d).hi)) ≡ true
    → (place : ℕ) → slice_get (points_of axes) place ≡ Some old
    → slice_get (points_of axes) (place + 1) ≡ Some (set point (n - 1) (to_z w64 (of_z w64 (to_z w64 (of_z w64 (get_or point (n - 1) e)) +ℤ pos 1))))
IsCarried-end axes old n point d e region inside h positive test place was =
    let axis : Interval = get_or axes (n - 1) d in
    let c : ℤ = get_or point (n - 1) e in
    let next : IsNext axes old (n - 1) point axis c = IsCarried-next axes old n point d e region inside h positive in
    let below = below_read axis.lo axis.hi c next.small.0 next.small.1 next.low next.high test in
    rw below.1 (IsCarried-step axes old (n - 1) point axis c region inside next below.0 place was)
