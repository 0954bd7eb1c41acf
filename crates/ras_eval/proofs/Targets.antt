-- The points of the region that an update's target names.
use Rattle.std.proofs.Common.{◌≡◌, ℕ, ◌+◌, ◌-◌, ◌<◌, ◌≤◌, ℤ, pos, ◌+ℤ◌, List, [], ◌∷◌, ◌++◌, length, map, take, drop, get_or, refl, sym, ap, ◌∙◌, arith}
use Rattle.std.specs.Int.{int_gap}
use Rattle.std.specs.List.{flat_map, range_with_len}
use Rattle.std.proofs.lemmas.Int.{ints}
use Rattle.std.proofs.lemmas.List.{append-nil, map-append, take_all}
use Rattle.ras_domain.specs.declared.region.Interval.{Interval}
use Rattle.ras_domain.specs.Region.{coordinates_of, extent_of, points_of}
use Rattle.ras_domain.proofs.Points.{int_gap_is}
use Rattle.ras_shape.specs.Cuts.{cut_found}
use Rattle.ras_shape.specs.declared.cuts.Cut.{Cut as CutFound}
use Rattle.ras_shape.specs.declared.cuts.Cut.TheVariants.{Fixed, Between}
use Rattle.spec_expressions.specs.Shape.{Box, Cut, fixed, between}
use Rattle.spec_statements.specs.Plans.{target_point}

-- ---- one coordinate

extent-one : (z : ℤ) → extent_of (record { lo = z; hi = z }) ≡ 1
extent-one z = omega (arith, ints, int_gap_is z (z +ℤ pos 1))

coordinates-one : (z : ℤ) → coordinates_of (record { lo = z; hi = z }) ≡ z ∷ []
coordinates-one z =
    let same : z +ℤ pos 0 ≡ z = omega (arith, ints) in
    ap (λ n. map (λ k. z +ℤ pos k) (range_with_len 0 n)) (extent-one z) ∙ ap (λ w. w ∷ []) same

-- ---- lists

map-pieces : {A B C : Type 0} (f : B → C) (pieces : A → List B) (xs : List A) → map f (flat_map pieces xs) ≡ flat_map (λ x. map f (pieces x)) xs
map-pieces f pieces [] = refl
map-pieces f pieces (x ∷ xs) = map-append f (pieces x) (flat_map pieces xs) ∙ ap (λ ys. map f (pieces x) ++ ys) (map-pieces f pieces xs)

same-pieces : {A B : Type 0} (f g : A → List B) → ((x : A) → f x ≡ g x) → (xs : List A) → flat_map f xs ≡ flat_map g xs
same-pieces f g same [] = refl
same-pieces f g same (x ∷ xs) = ap (λ ys. ys ++ flat_map f xs) (same x) ∙ ap (λ ys. g x ++ ys) (same-pieces f g same xs)

-- ---- points

fixed-piece : (z : ℤ) (cuts : List Cut) (ps : List (List ℤ)) → map (λ p. z ∷ p) (map (target_point cuts) ps) ≡ map (target_point (fixed z ∷ cuts)) ps
fixed-piece z cuts [] = refl
fixed-piece z cuts (p ∷ ps) = ap (λ qs. (z ∷ target_point cuts p) ∷ qs) (fixed-piece z cuts ps)

between-piece : (lo hi c : ℤ) (cuts : List Cut) (ps : List (List ℤ))
    → map (λ p. c ∷ p) (map (target_point cuts) ps) ≡ map (target_point (between lo hi ∷ cuts)) (map (λ p. c ∷ p) ps)
between-piece lo hi c cuts [] = refl
between-piece lo hi c cuts (p ∷ ps) = ap (λ qs. (c ∷ target_point cuts p) ∷ qs) (between-piece lo hi c cuts ps)

nothing-piece : (ps : List (List ℤ)) → ps ≡ map (target_point []) ps
nothing-piece [] = refl
nothing-piece (p ∷ ps) = ap (λ qs. p ∷ qs) (nothing-piece ps)

pub target_nothing : (region body : Box) → region ≡ body → points_of region ≡ map (target_point []) (points_of body)
target_nothing region body same = ap points_of same ∙ nothing-piece (points_of body)

pub target_fixed : (axis : Interval) (z : ℤ) (cuts : List Cut) (rest body : Box) → axis.lo ≡ z → axis.hi ≡ z → points_of rest ≡ map (target_point cuts) (points_of body)
    → points_of (axis ∷ rest) ≡ map (target_point (fixed z ∷ cuts)) (points_of body)
target_fixed axis z cuts rest body low high same =
    let is : axis ≡ record { lo = z; hi = z } = ap (λ (l : ℤ). record { lo = l; hi = axis.hi }) low ∙ ap (λ (h : ℤ). record { lo = z; hi = h }) high in
    ap (λ (a : Interval). points_of (a ∷ rest)) is
    ∙ ap (λ cs. flat_map (λ c. map (λ p. c ∷ p) (points_of rest)) cs) (coordinates-one z)
    ∙ append-nil (map (λ p. z ∷ p) (points_of rest))
    ∙ ap (λ ps. map (λ p. z ∷ p) ps) same ∙ fixed-piece z cuts (points_of body)

pub target_between : (axis first : Interval) (lo hi : ℤ) (cuts : List Cut) (rest body : Box) → axis ≡ first → points_of rest ≡ map (target_point cuts) (points_of body)
    → points_of (axis ∷ rest) ≡ map (target_point (between lo hi ∷ cuts)) (points_of (first ∷ body))
target_between axis first lo hi cuts rest body is same =
    ap (λ (a : Interval). points_of (a ∷ rest)) is
    ∙ same-pieces (λ c. map (λ p. c ∷ p) (points_of rest)) (λ c. map (target_point (between lo hi ∷ cuts)) (map (λ p. c ∷ p) (points_of body)))
    (λ c. ap (λ ps. map (λ p. c ∷ p) ps) same ∙ between-piece lo hi c cuts (points_of body)) (coordinates_of first)
    ∙ sym (map-pieces (target_point (between lo hi ∷ cuts)) (λ c. map (λ p. c ∷ p) (points_of body)) (coordinates_of first))

-- without cuts
pub target_none : (cuts : List CutFound) (region body : Box) → length cuts < 1 → region ≡ body → points_of region ≡ map (target_point (map cut_found cuts)) (points_of body)
target_none [] region body few same = target_nothing region body same
target_none (cut ∷ cuts) region body few same = absurd (omega (arith, few))

-- what is left of a list after its first item
left-of : {X : Type 0} (x : X) (xs : List X) → take (length (x ∷ xs) - 1) (drop 1 (x ∷ xs)) ≡ xs
left-of x xs = let same : length (x ∷ xs) - 1 ≡ length xs = omega arith in ap (λ n. take n xs) same ∙ take_all (length xs) xs (omega arith)

-- a position first
pub target_position : (cuts : List CutFound) (region body : Box) (z : ℤ) (d : CutFound) (i : Interval) → 1 ≤ length cuts → 1 ≤ length region → get_or cuts 0 d ≡ Fixed z
    → ((get_or region 0 i).lo ≡ z) × ((get_or region 0 i).hi ≡ z)
    → points_of (take (length region - 1) (drop 1 region)) ≡ map (target_point (map cut_found (take (length cuts - 1) (drop 1 cuts)))) (points_of body)
    → points_of region ≡ map (target_point (map cut_found cuts)) (points_of body)
target_position [] region body z d i some more is alone rest = absurd (omega (arith, some))
target_position (cut ∷ cuts) [] body z d i some more is alone rest = absurd (omega (arith, more))
target_position (cut ∷ cuts) (axis ∷ region) body z d i some more is alone rest =
    target_fixed axis z (map cut_found cuts) region body alone.0 alone.1
    (ap points_of (sym (left-of axis region)) ∙ rest ∙ ap (λ cs. map (target_point (map cut_found cs)) (points_of body)) (left-of cut cuts))
    ∙ ap (λ (c : Cut). map (target_point (c ∷ map cut_found cuts)) (points_of body)) (sym (ap cut_found is))

-- a trim first
pub target_trim : (cuts : List CutFound) (region body : Box) (lo hi : ℤ) (d : CutFound) (i j : Interval) → 1 ≤ length cuts → 1 ≤ length region → 1 ≤ length body → get_or cuts 0 d ≡ Between lo hi
    → ((get_or region 0 i).lo ≡ (get_or body 0 j).lo) × ((get_or region 0 i).hi ≡ (get_or body 0 j).hi)
    → points_of (take (length region - 1) (drop 1 region)) ≡ map (target_point (map cut_found (take (length cuts - 1) (drop 1 cuts)))) (points_of (take (length body - 1) (drop 1 body)))
    → points_of region ≡ map (target_point (map cut_found cuts)) (points_of body)
target_trim [] region body lo hi d i j some more most is same rest = absurd (omega (arith, some))
target_trim (cut ∷ cuts) [] body lo hi d i j some more most is same rest = absurd (omega (arith, more))
target_trim (cut ∷ cuts) (axis ∷ region) [] lo hi d i j some more most is same rest = absurd (omega (arith, most))
target_trim (cut ∷ cuts) (axis ∷ region) (first ∷ body) lo hi d i j some more most is same rest =
    let equal : axis ≡ first = ap (λ (l : ℤ). record { lo = l; hi = axis.hi }) same.0 ∙ ap (λ (h : ℤ). record { lo = first.lo; hi = h }) same.1 in
    target_between axis first lo hi (map cut_found cuts) region body equal
    (ap points_of (sym (left-of axis region)) ∙ rest ∙ ap (λ cs. map (target_point (map cut_found cs)) (points_of (take (length (first ∷ body) - 1) (drop 1 (first ∷ body))))) (left-of cut cuts)
    ∙ ap (λ axes. map (target_point (map cut_found cuts)) (points_of axes)) (left-of first body))
    ∙ ap (λ (c : Cut). map (target_point (c ∷ map cut_found cuts)) (points_of (first ∷ body))) (sym (ap cut_found is))
