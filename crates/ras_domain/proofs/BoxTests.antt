-- What the tests of boxes and points say.
use Rattle.std.proofs.Common.{◌≡◌, suc, ◌*◌, ℤ, ◌≤ℤ◌, ◌↔◌, Bool, true, false, List, [], ◌∷◌, length, Contains, IsTrue, rules, refl, sym, subst, ap, ◌∙◌, arith}
use Rattle.std.specs.Prelude.{◌&&◌, ◌==◌, int_le, int_lt}
use Rattle.std.specs.Cmp.Derive.{both_true}
use Rattle.std.specs.List.{list_all, list_any, zip, AllByRecursion}
use Rattle.std.proofs.lemmas.Bool.{eqb-true, and_parts, or_from}
use Rattle.std.proofs.lemmas.Bool.Decides.{Decides-int_eq, Decides-eqb}
use Rattle.std.proofs.lemmas.Int.{ints}
use Rattle.std.proofs.lemmas.List.Elements.{All-contains_itself, All-weaker, recursion_from_All}
use Rattle.ras_domain.specs.declared.region.Interval.{Interval}
use Rattle.ras_domain.specs.Region.{IsIn, IsOrdered, extent_of, is_empty, is_in, points_of, volume_of}
use Rattle.ras_domain.specs.Boxes.{Covers, LiesIn, is_same_interval, is_same_box, is_within, lies_in}
use Rattle.ras_domain.proofs.Points.{Contains-IsIn, length-points_of}

-- a box has as many points as its volume says
pub volume_of-points : (axes : List Interval) → volume_of axes ≡ length (points_of axes)
volume_of-points [] = refl
volume_of-points (axis ∷ axes) = ap (λ n. extent_of axis * n) (volume_of-points axes) ∙ sym (length-points_of axis axes)

-- each point of a box is in it
pub each_point : (axes : List Interval) → AllByRecursion (λ p. IsIn p axes) (points_of axes)
each_point axes =
    recursion_from_All (λ p. IsIn p axes) (points_of axes)
    (All-weaker (Contains (points_of axes)) (λ p. IsIn p axes) (λ p has. (Contains-IsIn axes p).0 has) (points_of axes) (All-contains_itself (points_of axes)))

-- ---- points

-- the test for one axis more
one_more : (lo hi c : ℤ) (b : Bool) (P : Type 0) → IsTrue b ↔ P → IsTrue (int_le lo c && int_le c hi && b) ↔ ((lo ≤ℤ c) × (c ≤ℤ hi) × P)
one_more lo hi c b P rest = search rules

-- a point is found in a box where it is in it
pub IsIn-is_in : (p : List ℤ) (axes : List Interval) → is_in p axes ≡ true ↔ IsIn p axes
IsIn-is_in [] [] = (λ _. tt, λ _. refl)
IsIn-is_in [] (axis ∷ axes) = (λ is. absurd (cc), λ is. absurd is)
IsIn-is_in (c ∷ p) [] = (λ is. absurd (cc), λ is. absurd is)
IsIn-is_in (c ∷ p) (axis ∷ axes) = one_more axis.lo axis.hi c (is_in p axes) (IsIn p axes) (IsIn-is_in p axes)

-- an interval with a number isn't empty
pub not_fallen : (lo z hi : ℤ) → lo ≤ℤ z → z ≤ℤ hi → int_lt hi lo ≡ false
not_fallen lo z hi low high = grind (arith, ints)

-- the test of an interval says whether its bounds are ordered
pub IsOrdered-is_empty : (axis : Interval) → is_empty axis ≡ false ↔ IsOrdered axis
IsOrdered-is_empty axis = (λ is. grind (arith, ints), λ ordered. grind (arith, ints))

-- a box with a point has no empty interval
pub not_empty : (p : List ℤ) (axes : List Interval) → IsIn p axes → list_any is_empty axes ≡ false
not_empty [] [] within = refl
not_empty [] (axis ∷ axes) within = absurd within
not_empty (c ∷ p) [] within = absurd within
not_empty (c ∷ p) (axis ∷ axes) within =
    or_from (is_empty axis) (list_any is_empty axes) (not_fallen axis.lo c axis.hi within.0 within.1) (not_empty p axes within.2)

-- ---- boxes

-- two comparisons, as the test says
pub both_le : (a b c d : ℤ) → (int_le a b && int_le c d) ≡ true ↔ ((a ≤ℤ b) × (c ≤ℤ d))
both_le a b c d = (λ is. (grind (arith, ints), grind (arith, ints)), λ both. grind (arith, ints))

abbrev interval : ℤ → ℤ → Interval
interval lo hi = record { lo = lo; hi = hi }

-- intervals with the same bounds are the same
same_interval : (a b : Interval) → is_same_interval a b ≡ true → a ≡ b
same_interval a b is =
    let both = and_parts _ _ is in
    ap (λ z. interval z a.hi) ((Decides-int_eq a.lo b.lo).0 both.0) ∙ ap (λ z. interval b.lo z) ((Decides-int_eq a.hi b.hi).0 both.1)

-- boxes that are found to be the same are the same
pub same-is_same_box : (a b : List Interval) → is_same_box a b ≡ true → a ≡ b
same-is_same_box [] [] is = refl
same-is_same_box [] (y ∷ ys) is = absurd cc
same-is_same_box (x ∷ xs) [] is = absurd cc
same-is_same_box (x ∷ xs) (y ∷ ys) is =
    let both = and_parts (is_same_interval x y) (is_same_box xs ys) is in
    let here : x ≡ y = same_interval x y both.0 in
    let rest : xs ≡ ys = same-is_same_box xs ys both.1 in
    cc (here, rest)

is_same_box-itself : (a : List Interval) → is_same_box a a ≡ true
is_same_box-itself [] = refl
is_same_box-itself (x ∷ xs) =
    both_true (both_true ((Decides-int_eq x.lo x.lo).1 refl) ((Decides-int_eq x.hi x.hi).1 refl)) (is_same_box-itself xs)

-- boxes that are the same are found to be the same
pub is_same_box-same : (a b : List Interval) → a ≡ b → is_same_box a b ≡ true
is_same_box-same a b same = subst (λ c. is_same_box a c ≡ true) same (is_same_box-itself a)

-- as the test says
LiesIn-from_tests : (small big : List Interval) → length small ≡ length big → list_all is_within (zip small big) ≡ true → LiesIn small big
LiesIn-from_tests [] [] same is = tt
LiesIn-from_tests [] (y ∷ big) same is = absurd (omega arith)
LiesIn-from_tests (x ∷ small) [] same is = absurd (omega arith)
LiesIn-from_tests (x ∷ small) (y ∷ big) same is =
    let both = and_parts (is_within (x, y)) (list_all is_within (zip small big)) is in
    let here = (both_le y.lo x.lo x.hi y.hi).0 both.0 in
    (here.0, here.1, LiesIn-from_tests small big (omega arith) both.1)

tests-LiesIn : (small big : List Interval) → LiesIn small big → (length small ≡ length big) × (list_all is_within (zip small big) ≡ true)
tests-LiesIn [] [] lies = (refl, refl)
tests-LiesIn [] (y ∷ big) lies = absurd lies
tests-LiesIn (x ∷ small) [] lies = absurd lies
tests-LiesIn (x ∷ small) (y ∷ big) lies =
    let rest = tests-LiesIn small big lies.2 in
    (ap suc rest.0, both_true ((both_le y.lo x.lo x.hi y.hi).1 (lies.0, lies.1)) rest.1)

pub LiesIn-lies_in : (small big : List Interval) → lies_in small big ≡ true ↔ LiesIn small big
LiesIn-lies_in small big = (
  λ is. let both = and_parts (length small == length big) (list_all is_within (zip small big)) is in
      LiesIn-from_tests small big (eqb-true (length small) (length big) both.0) both.1,
  λ lies. let both = tests-LiesIn small big lies in
      both_true ((Decides-eqb (length small) (length big)).1 both.0) both.1,
)

pub length-LiesIn : (small big : List Interval) → LiesIn small big → length small ≡ length big
length-LiesIn small big lies = (tests-LiesIn small big lies).0

-- a box that another lies in covers it
pub Covers-LiesIn : (small big : List Interval) → LiesIn small big → Covers big small
Covers-LiesIn [] [] lies p within = within
Covers-LiesIn [] (y ∷ big) lies p within = absurd lies
Covers-LiesIn (x ∷ small) [] lies p within = absurd lies
Covers-LiesIn (x ∷ small) (y ∷ big) lies [] within = absurd within
Covers-LiesIn (x ∷ small) (y ∷ big) lies (c ∷ p) within =
    (omega (arith, ints, lies.0, within.0), omega (arith, ints, lies.1, within.1), Covers-LiesIn small big lies.2 p within.2)
