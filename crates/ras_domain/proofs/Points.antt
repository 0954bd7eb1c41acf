-- What the points of a box are, and how many.
use Rattle.std.proofs.Common.{◌≡◌, ℕ, suc, ◌+◌, ◌-◌, ◌*◌, ◌≤◌, ◌<◌, ℤ, pos, negsuc, ◌+ℤ◌, ◌≤ℤ◌, ◌↔◌, Bool, true, false, IsTrue, MatchBool, List, [], ◌∷◌, map, length, get_or, drop, All, Contains, refl, sym, ap, ◌∙◌, arith, length-append}
use Rattle.std.specs.Int.{int_gap}
use Rattle.std.specs.List.{flat_map, range_with_len, zip, AllWithin, HoldsAt}
use Rattle.std.proofs.lemmas.Bool.{false≢true}
use Rattle.std.proofs.lemmas.List.{length-map, at_drop_more}
use Rattle.std.proofs.lemmas.List.Elements.{All-nil, All-cons, All-head, All-tail, All-drop, All-append, All-map, All-weaker, All-contains, All-from_all_within}
use Rattle.std.proofs.lemmas.Int.{ints}
use Rattle.std.proofs.Math.Nat.{mul-le-mul_left, le-mul_of_pos_right}
use native.Mathlib.Nat.{mul_assoc}
use borrow.Author.Differences.{up, down}
use Rattle.std.proofs.lemmas.List.FromFn.{length-range_with_len, get_or-range_with_len, length-map-range_with_len, get_or-map-range_with_len}
use Rattle.ras_domain.specs.declared.region.Interval.{Interval}
use Rattle.ras_domain.specs.Region.{IsOrdered, IsIn, extent_of, coordinates_of, points_of}
use Rattle.law_lists.proofs.Elements.{Contains-map, Contains-flat_map}

-- pieces of one length
length-flat_map-same : {X A : Type 0} (f : X → List A) (n : ℕ) → ((x : X) → length (f x) ≡ n) → (xs : List X) → length (flat_map f xs) ≡ length xs * n
length-flat_map-same f n same [] = omega arith
length-flat_map-same f n same (x ∷ xs) =
    omega (arith, length-append (f x) (flat_map f xs), same x, length-flat_map-same f n same xs)

-- an interval has its extent's number of coordinates
length-coordinates_of : (axis : Interval) → length (coordinates_of axis) ≡ extent_of axis
length-coordinates_of axis = length-map-range_with_len _ 0 (extent_of axis)

-- one more axis has the points once for each coordinate
pub length-points_of : (axis : Interval) (axes : List Interval) → length (points_of (axis ∷ axes)) ≡ extent_of axis * length (points_of axes)
length-points_of axis axes =
    length-flat_map-same _ (length (points_of axes)) (λ c. length-map (points_of axes) _) (coordinates_of axis)
    ∙ ap (λ n. n * length (points_of axes)) (length-coordinates_of axis)

-- how many numbers lie between, over the differences that `ints` reads
pub int_gap_is : (a b : ℤ) → int_gap a b ≡ (up b + down a) - (up a + down b)
int_gap_is (pos a) (pos b) = omega arith
int_gap_is (pos a) (negsuc b) = omega arith
int_gap_is (negsuc a) (pos b) = omega arith
int_gap_is (negsuc a) (negsuc b) = omega arith

-- an ordered interval has a number in it
pub one-le-extent_of : (axis : Interval) → IsOrdered axis → 1 ≤ extent_of axis
one-le-extent_of axis ordered = omega (arith, ints, int_gap_is axis.lo (axis.hi +ℤ pos 1))

-- a box of ordered intervals has a point
pub one-le-length-points_of : (axes : List Interval) → All IsOrdered axes → 1 ≤ length (points_of axes)
one-le-length-points_of [] ordered = omega arith
one-le-length-points_of (axis ∷ axes) ordered =
    let one : 1 ≤ extent_of axis = one-le-extent_of axis (All-head IsOrdered axis axes ordered) in
    let rest : 1 ≤ length (points_of axes) = one-le-length-points_of axes (All-tail IsOrdered axis axes ordered) in
    omega (arith, length-points_of axis axes, mul-le-mul_left (extent_of axis) rest)

-- the points of a part of the axes, one axis further
length-points_of-drop_more : (axes : List Interval) (i : ℕ) (d : Interval) → i < length axes
    → length (points_of (drop i axes)) ≡ extent_of (get_or axes i d) * length (points_of (drop (i + 1) axes))
length-points_of-drop_more axes i d within =
    at_drop_more (λ xs. length (points_of xs)) axes i d within ∙ length-points_of (get_or axes i d) (drop (i + 1) axes)

-- a running product of extents still leads to the number of points one axis further
pub volume_more : (axes : List Interval) (i v e n : ℕ) (d : Interval) → i < length axes → e ≡ extent_of (get_or axes i d) → v * length (points_of (drop i axes)) ≡ n
    → v * e * length (points_of (drop (i + 1) axes)) ≡ n
volume_more axes i v e n d within is so_far =
    mul_assoc v e (length (points_of (drop (i + 1) axes)))
    ∙ ap (λ k. v * k) (ap (λ k. k * length (points_of (drop (i + 1) axes))) is ∙ sym (length-points_of-drop_more axes i d within))
    ∙ so_far

-- and it is at most that number
pub volume_more-le : (axes : List Interval) (i v e n : ℕ) (d : Interval) → All IsOrdered axes → i < length axes → e ≡ extent_of (get_or axes i d)
    → v * length (points_of (drop i axes)) ≡ n → v * e ≤ n
volume_more-le axes i v e n d ordered within is so_far =
    let some : 1 ≤ length (points_of (drop (i + 1) axes)) = one-le-length-points_of (drop (i + 1) axes) (All-drop IsOrdered (i + 1) axes ordered) in
    omega (arith, volume_more axes i v e n d within is so_far, le-mul_of_pos_right (v * e) some)

-- for the loops that multiply extents
pub ruleset volume_steps = (volume_more, volume_more-le)

-- ---- the points of a box are those within

-- what every piece has, the pieces joined have
All-flat_map : {X Y : Type 0} (P : X → Type 0) (Q : Y → Type 0) (f : X → List Y) → ((x : X) → P x → All Q (f x)) → (xs : List X) → All P xs → All Q (flat_map f xs)
All-flat_map P Q f gives [] all = All-nil Q
All-flat_map P Q f gives (x ∷ xs) all =
    All-append Q (f x) (flat_map f xs) (gives x (All-head P x xs all)) (All-flat_map P Q f gives xs (All-tail P x xs all))

-- the coordinate lies between the bounds
abbrev pub IsBetween : Interval × ℤ → Type 0
IsBetween x = (x.0.lo ≤ℤ x.1) × (x.1 ≤ℤ x.0.hi)

-- the coordinates of an interval lie in it
coordinates_of-between : (axis : Interval) → All (λ c. IsBetween (axis, c)) (coordinates_of axis)
coordinates_of-between axis =
    All-map (λ c. IsBetween (axis, c)) (λ k. axis.lo +ℤ pos k) (range_with_len 0 (extent_of axis)) (λ i d within.
    let k : ℕ = get_or (range_with_len 0 (extent_of axis)) i d in
    let small : k < extent_of axis = omega (arith, get_or-range_with_len 0 (extent_of axis) i d, length-range_with_len 0 (extent_of axis)) in
    (omega (arith, ints), omega (arith, ints, int_gap_is axis.lo (axis.hi +ℤ pos 1))))

-- and each number in it is one of them
Contains-coordinates_of : (axis : Interval) (c : ℤ) → IsBetween (axis, c) → Contains (coordinates_of axis) c
Contains-coordinates_of axis c between =
    let k : ℕ = int_gap axis.lo c in
    let within : k < extent_of axis = omega (arith, ints, between.0, between.1, int_gap_is axis.lo c, int_gap_is axis.lo (axis.hi +ℤ pos 1)) in
    let reached : axis.lo +ℤ pos k ≡ c = omega (arith, ints, between.0, int_gap_is axis.lo c) in
    (k, omega (arith, length-coordinates_of axis), get_or-map-range_with_len (λ n. axis.lo +ℤ pos n) 0 (extent_of axis) k k c within (omega arith) ∙ reached)

-- each point of a box is within it
All-IsIn : (axes : List Interval) → All (λ p. IsIn p axes) (points_of axes)
All-IsIn [] = All-cons (λ p. IsIn p []) [] [] tt (All-nil (λ p. IsIn p []))
All-IsIn (axis ∷ axes) =
    All-flat_map (λ c. IsBetween (axis, c)) (λ p. IsIn p (axis ∷ axes)) (λ c. map (λ p. c ∷ p) (points_of axes)) (λ c between.
    All-map (λ p. IsIn p (axis ∷ axes)) (λ p. c ∷ p) (points_of axes)
    (All-weaker (λ p. IsIn p axes) (λ p. IsIn (c ∷ p) (axis ∷ axes)) (λ p within. (between.0, between.1, within)) (points_of axes) (All-IsIn axes)))
    (coordinates_of axis) (coordinates_of-between axis)

-- each point within a box is one of its points
Contains-from_IsIn : (axes : List Interval) (p : List ℤ) → IsIn p axes → Contains (points_of axes) p
Contains-from_IsIn [] [] within = (0, omega arith, refl)
Contains-from_IsIn [] (c ∷ p) within = absurd within
Contains-from_IsIn (axis ∷ axes) [] within = absurd within
Contains-from_IsIn (axis ∷ axes) (c ∷ p) within =
    Contains-flat_map (λ c. map (λ p. c ∷ p) (points_of axes)) (coordinates_of axis) c (c ∷ p) (Contains-coordinates_of axis c (within.0, within.1))
    (Contains-map (λ p. c ∷ p) (points_of axes) p (Contains-from_IsIn axes p within.2))

-- the points of a box are those within it
pub Contains-IsIn : (axes : List Interval) (p : List ℤ) → Contains (points_of axes) p ↔ IsIn p axes
Contains-IsIn axes p =
    (λ has. All-contains (λ q. IsIn q axes) (points_of axes) p (All-IsIn axes) has, Contains-from_IsIn axes p)

-- a point is within a box where they have equally many coordinates and each lies between its bounds
IsIn-from_zip : (axes : List Interval) (p : List ℤ) → length axes ≡ length p → All IsBetween (zip axes p) → IsIn p axes
IsIn-from_zip [] [] same all = tt
IsIn-from_zip [] (c ∷ p) same all = absurd (omega arith)
IsIn-from_zip (axis ∷ axes) [] same all = absurd (omega arith)
IsIn-from_zip (axis ∷ axes) (c ∷ p) same all =
    let here = All-head IsBetween (axis, c) (zip axes p) all in
    (here.0, here.1, IsIn-from_zip axes p (omega arith) (All-tail IsBetween (axis, c) (zip axes p) all))

-- and the way back
zip-from_IsIn : (axes : List Interval) (p : List ℤ) → IsIn p axes → All IsBetween (zip axes p)
zip-from_IsIn [] [] within = All-nil IsBetween
zip-from_IsIn [] (c ∷ p) within = absurd within
zip-from_IsIn (axis ∷ axes) [] within = absurd within
zip-from_IsIn (axis ∷ axes) (c ∷ p) within =
    All-cons IsBetween (axis, c) (zip axes p) (within.0, within.1) (zip-from_IsIn axes p within.2)

-- a point within a box has a coordinate for each axis
pub length-from_IsIn : (p : List ℤ) (axes : List Interval) → IsIn p axes → length p ≡ length axes
length-from_IsIn [] [] within = refl
length-from_IsIn [] (axis ∷ axes) within = absurd within
length-from_IsIn (c ∷ p) [] within = absurd within
length-from_IsIn (c ∷ p) (axis ∷ axes) within = ap (λ n. suc n) (length-from_IsIn p axes within.2)

-- what a test of each pair says of the point
pub IsIn-from_cases : (axes : List Interval) (p : List ℤ) (r : Bool) → length axes ≡ length p
    → MatchBool r (AllWithin IsBetween (zip axes p) 0 (length (zip axes p))) ((k : ℕ) × (k < length (zip axes p)) × HoldsAt (λ x. ¬ IsBetween x) (zip axes p) k) → IsTrue r ↔ IsIn p axes
IsIn-from_cases axes p true same all =
    (λ _. IsIn-from_zip axes p same (All-from_all_within IsBetween (zip axes p) all), λ _. refl)
IsIn-from_cases axes p false same some =
    (λ no. absurd (false≢true no), λ within. let d : Interval × ℤ = (record { lo = pos 0; hi = pos 0 }, pos 0) in absurd (some.2 d (zip-from_IsIn axes p within some.0 d some.1)))
