-- Look-ups among the points of a box that are paired with something.
use Rattle.std.proofs.Common.{◌≡◌, ℕ, ℤ, zero, suc, true, false, cond, List, [], ◌∷◌, map, Some, None, Ordering, Less, refl, sym, ap, ◌∙◌, subst}
use Rattle.std.specs.Cmp.{IsTotalOrder}
use Rattle.std.specs.Cmp.Lexicographic.{slice_cmp}
use Rattle.std.specs.List.{slice_get, zip}
use Rattle.std.specs.List.Sorted.{IsStrictlySortedBy}
use Rattle.std.specs.Map.{lookup}
use Rattle.std.specs.Ordering.{int_cmp, is_eq, ordering_reverse}
use Rattle.std.proofs.lemmas.Bool.{false_from_ne_true}
use Rattle.std.proofs.lemmas.Cmp.{int_cmp_total, lists_total, tied_itself}
use Rattle.std.proofs.lemmas.Map.{lookup-none}
use Rattle.ras_domain.specs.Region.{IsIn, points_of}
use Rattle.ras_domain.proofs.BoxTests.{each_point}
use Rattle.ras_domain.proofs.RowOrder.{points_of-ascends}
use Rattle.law_effects.proofs.Shown.{same_points}
use Rattle.law_lists.proofs.Each.{each_found, each_weaker}
use Rattle.law_work.proofs.Seen.{each-zip}
use Rattle.spec_expressions.specs.Shape.{Box}

abbrev compare : List ℤ → List ℤ → Ordering
compare = slice_cmp int_cmp

compare_total : IsTotalOrder compare
compare_total = lists_total int_cmp_total

-- a point that is above another one isn't that one
above_differs : (p q : List ℤ) → compare q p ≡ Less → is_eq (compare p q) ≡ false
above_differs p q less = ap is_eq (compare_total.antisymm p q ∙ ap ordering_reverse less)

-- what is paired with the point at a place
zip-lookup : {X : Type 0} (ps : List (List ℤ)) (xs : List X) (k : ℕ) (p : List ℤ) → IsStrictlySortedBy compare ps → slice_get ps k ≡ Some p
    → lookup (λ q. is_eq (compare p q)) (zip ps xs) ≡ slice_get xs k
unfolding IsStrictlySortedBy
zip-lookup [] xs k p sorted at = absurd (cc)
zip-lookup (q ∷ ps) [] k p sorted at = refl
zip-lookup (q ∷ ps) (x ∷ xs) zero p sorted at =
    let same : q ≡ p = cc in
    ap (λ b. cond b (Some x) (lookup (λ q. is_eq (compare p q)) (zip ps xs))) (subst (λ y. is_eq (compare p y) ≡ true) (sym same) (ap is_eq (tied_itself compare_total p)))
zip-lookup (q ∷ ps) (x ∷ xs) (suc k) p sorted at =
    ap (λ b. cond b (Some x) (lookup (λ q. is_eq (compare p q)) (zip ps xs))) (above_differs p q (each_found (λ y. compare q y ≡ Less) ps k p sorted.0 at))
    ∙ zip-lookup ps xs k p sorted.1 at

pub points-lookup : {X : Type 0} (box : Box) (xs : List X) (k : ℕ) (p : List ℤ) → slice_get (points_of box) k ≡ Some p
    → lookup (λ q. is_eq (slice_cmp int_cmp p q)) (zip (points_of box) xs) ≡ slice_get xs k
points-lookup box xs k p at = zip-lookup (points_of box) xs k p (points_of-ascends box) at

-- a point outside is paired with nothing
pub outside-lookup : {X : Type 0} (box : Box) (xs : List X) (p : List ℤ) → ¬ IsIn p box
    → lookup (λ q. is_eq (slice_cmp int_cmp p q)) (zip (points_of box) xs) ≡ None
outside-lookup {X = X} box xs p outside =
    lookup-none (λ q. is_eq (slice_cmp int_cmp p q)) (zip (points_of box) xs)
    (each_weaker (λ (entry : List ℤ × X). IsIn entry.0 box) (λ entry. is_eq (slice_cmp int_cmp p entry.0) ≡ false)
    (λ entry inside. false_from_ne_true (is_eq (slice_cmp int_cmp p entry.0)) (λ same. outside (subst (λ q. IsIn q box) (sym (same_points p entry.0 same)) inside)))
    (zip (points_of box) xs) (each-zip (λ q. IsIn q box) (points_of box) xs (each_point box)))

pub slice_get-map : {A B : Type 0} (f : A → B) (xs : List A) (k : ℕ) (x : A) → slice_get xs k ≡ Some x → slice_get (map f xs) k ≡ Some (f x)
slice_get-map f [] k x at = absurd (cc)
slice_get-map f (y ∷ ys) zero x at = let same : y ≡ x = cc in ap (λ z. Some (f z)) same
slice_get-map f (y ∷ ys) (suc k) x at = slice_get-map f ys k x at
