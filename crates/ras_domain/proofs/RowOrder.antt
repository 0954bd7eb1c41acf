-- The points of a box ascend, and so a point's place is the number of points before it.
use Rattle.std.proofs.Common.{◌≡◌, ℕ, zero, suc, ◌+◌, ◌<◌, ℤ, pos, ◌+ℤ◌, Bool, true, false, cond, List, [], ◌∷◌, ◌++◌, map, Some, refl, sym, ap, ◌∙◌, arith}
use Rattle.std.specs.Cmp.{IsTotalOrder}
use Rattle.std.specs.Cmp.Lexicographic.{slice_cmp}
use Rattle.std.specs.List.{AllByRecursion, count_by, flat_map, range_with_len, slice_get}
use Rattle.std.specs.List.Sorted.{IsStrictlySortedBy}
use Rattle.std.specs.Prelude.{int_lt}
use Rattle.std.specs.Ordering.{nat_cmp, int_cmp, is_lt, ordering_then, ordering_reverse}
use Rattle.std.specs.declared.cmp.Ordering.{Ordering}
use Rattle.std.specs.declared.cmp.Ordering.TheVariants.{Less, Equal, Greater}
use Rattle.std.proofs.lemmas.Cmp.{ranked, tied_itself, int_cmp_total, lists_total}
use Rattle.std.proofs.lemmas.Int.{ints}
use Rattle.std.proofs.lemmas.List.FromFn.{length-range_with_len, get_or-range_with_len}
use Rattle.std.proofs.lemmas.List.Sums.{sum_by-cons}
use Rattle.std.proofs.lemmas.Map.Keys.{sorted_from_strictly_increasing}
use Rattle.ras_domain.specs.declared.region.Interval.{Interval}
use Rattle.ras_domain.specs.Region.{extent_of, coordinates_of, points_of, place_in_rows}
use Rattle.law_lists.proofs.Each.{append_all, each_map, each_flat_map, each_any, each_weaker, each_found}

-- ---- what holds of each element

-- ---- the place in a sorted list

-- what an element that passes adds to a count
abbrev one_if : Bool → ℕ
one_if b = cond b 1 0

-- where no element passes, none is counted
count_by-none : {X : Type 0} (p : X → Bool) (xs : List X) → AllByRecursion (λ x. p x ≡ false) xs → count_by p xs ≡ 0
count_by-none p [] all = refl
count_by-none p (x ∷ xs) all =
    omega (arith, sum_by-cons (λ x. one_if (p x)) x xs, ap one_if all.0, count_by-none p xs all.1)

-- what is above x is not below it
is_lt-flip : {K : Type 0} {R : K → K → Ordering} → IsTotalOrder R → (x y : K) → R x y ≡ Less → is_lt (R y x) ≡ false
is_lt-flip o x y less = ap is_lt (o.antisymm y x ∙ ap ordering_reverse less)

-- in a list that ascends by a total order as many elements are below the k-th as stand before it
count_by-below : {K : Type 0} {R : K → K → Ordering} → IsTotalOrder R → (ks : List K) (k : ℕ) (x : K) → IsStrictlySortedBy R ks → slice_get ks k ≡ Some x
    → count_by (λ q. is_lt (R q x)) ks ≡ k
unfolding IsStrictlySortedBy
count_by-below o [] k x sorted is = absurd (cc)
count_by-below {R = R} o (y ∷ ys) zero x sorted is =
    let same : y ≡ x = cc in
    let here : is_lt (R y x) ≡ false = ap is_lt (ap (λ z. R z x) same ∙ tied_itself o x) in
    let above = each_weaker (λ z. R y z ≡ Less) (λ z. is_lt (R z x) ≡ false) (λ z less. is_lt-flip o x z (ap (λ v. R v z) (sym same) ∙ less)) ys sorted.0 in
    count_by-none (λ q. is_lt (R q x)) (y ∷ ys) (here, above)
count_by-below {R = R} o (y ∷ ys) (suc k) x sorted is =
    let here : one_if (is_lt (R y x)) ≡ 1 = ap (λ r. one_if (is_lt r)) (each_found (λ z. R y z ≡ Less) ys k x sorted.0 is) in
    omega (arith, sum_by-cons (λ q. one_if (is_lt (R q x))) y ys, here, count_by-below o ys k x sorted.1 is)

-- ---- the points ascend

-- two ascending lists, joined, where each element of the first is below those of the second
IsStrictlySortedBy-append : {K : Type 0} (R : K → K → Ordering) (xs ys : List K) → IsStrictlySortedBy R xs → IsStrictlySortedBy R ys
    → AllByRecursion (λ x. AllByRecursion (λ y. R x y ≡ Less) ys) xs → IsStrictlySortedBy R (xs ++ ys)
unfolding IsStrictlySortedBy
IsStrictlySortedBy-append R [] ys front back below = back
IsStrictlySortedBy-append R (x ∷ xs) ys front back below =
    (append_all (λ y. R x y ≡ Less) xs ys front.0 below.0, IsStrictlySortedBy-append R xs ys front.1 back below.1)

-- a function that keeps the order
IsStrictlySortedBy-map : {J K : Type 0} (R : J → J → Ordering) (S : K → K → Ordering) (f : J → K) → ((x y : J) → R x y ≡ Less → S (f x) (f y) ≡ Less) → (xs : List J)
    → IsStrictlySortedBy R xs → IsStrictlySortedBy S (map f xs)
unfolding IsStrictlySortedBy
IsStrictlySortedBy-map R S f keeps [] sorted = tt
IsStrictlySortedBy-map R S f keeps (x ∷ xs) sorted =
    (each_map (λ y. R x y ≡ Less) (λ y. S (f x) y ≡ Less) f (keeps x) xs sorted.0, IsStrictlySortedBy-map R S f keeps xs sorted.1)

-- rows under ascending coordinates
rows_ascend : (cs : List ℤ) (ps : List (List ℤ)) → IsStrictlySortedBy int_cmp cs → IsStrictlySortedBy (slice_cmp int_cmp) ps
    → IsStrictlySortedBy (slice_cmp int_cmp) (flat_map (λ c. map (λ p. c ∷ p) ps) cs)
unfolding IsStrictlySortedBy
rows_ascend [] ps coordinates points = tt
rows_ascend (c ∷ cs) ps coordinates points =
    let within = IsStrictlySortedBy-map (slice_cmp int_cmp) (slice_cmp int_cmp) (λ p. c ∷ p)
    (λ p q less. ap (λ r. ordering_then r (slice_cmp int_cmp p q)) (tied_itself int_cmp_total c) ∙ less) ps points in
    let later = λ (p : List ℤ). each_flat_map (λ d. int_cmp c d ≡ Less) (λ q. slice_cmp int_cmp (c ∷ p) q ≡ Less) (λ d. map (λ q. d ∷ q) ps)
    (λ d less. each_map (λ q. Unit {0}) (λ q. slice_cmp int_cmp (c ∷ p) q ≡ Less) (λ q. d ∷ q) (λ q _. ap (λ r. ordering_then r (slice_cmp int_cmp p q)) less) ps
    (each_any (λ q. Unit {0}) (λ q. tt) ps)) cs coordinates.0 in
    IsStrictlySortedBy-append (slice_cmp int_cmp) (map (λ p. c ∷ p) ps) (flat_map (λ d. map (λ p. d ∷ p) ps) cs) within (rows_ascend cs ps coordinates.1 points)
    (each_map (λ p. Unit {0}) _ (λ p. c ∷ p) (λ p _. later p) ps (each_any (λ p. Unit {0}) (λ p. tt) ps))

-- ascending numbers, counted from lo
int_cmp-up : (lo : ℤ) (m n : ℕ) → nat_cmp m n ≡ Less → int_cmp (lo +ℤ pos m) (lo +ℤ pos n) ≡ Less
int_cmp-up lo m n less =
    let below : m < n = ranked m n Less (sym less) in
    let above : int_lt (lo +ℤ pos m) (lo +ℤ pos n) ≡ true = grind (arith, ints) in
    ap (λ b. cond b Less (cond (int_lt (lo +ℤ pos n) (lo +ℤ pos m)) Greater Equal)) above

-- the coordinates of an interval ascend
coordinates_of-ascend : (axis : Interval) → IsStrictlySortedBy int_cmp (coordinates_of axis)
coordinates_of-ascend axis =
    IsStrictlySortedBy-map nat_cmp int_cmp (λ k. axis.lo +ℤ pos k) (int_cmp-up axis.lo) (range_with_len 0 (extent_of axis))
    (sorted_from_strictly_increasing (range_with_len 0 (extent_of axis)) (λ k within.
    let n : k + 1 < extent_of axis = omega (arith, length-range_with_len 0 (extent_of axis)) in
    omega (arith, get_or-range_with_len 0 (extent_of axis) k 0 (omega arith), get_or-range_with_len 0 (extent_of axis) (k + 1) 0 n)))

-- the points of a box ascend
pub points_of-ascends : (axes : List Interval) → IsStrictlySortedBy (slice_cmp int_cmp) (points_of axes)
unfolding IsStrictlySortedBy
points_of-ascends [] = (tt, tt)
points_of-ascends (axis ∷ axes) =
    rows_ascend (coordinates_of axis) (points_of axes) (coordinates_of-ascend axis) (points_of-ascends axes)

-- the points before the one at a place are as many as the place says
pub place_in_rows-at : (axes : List Interval) (place : ℕ) (p : List ℤ) → slice_get (points_of axes) place ≡ Some p → place_in_rows axes p ≡ place
place_in_rows-at axes place p is =
    count_by-below (lists_total int_cmp_total) (points_of axes) place p (points_of-ascends axes) is
