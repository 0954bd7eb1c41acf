-- Numbers that ascend, and a search among them.
use Rattle.std.proofs.Common.{◌≡◌, ◌⊎◌, inl, inr, ℕ, suc, ◌<◌, ◌≤◌, false, true, List, [], ◌∷◌, ◌++◌, Less, length, get_or, Result, Ok, Err, refl, sym, ap, ◌∙◌, arith, eqb, eq-eqb, MatchResult, All}
use Rattle.std.specs.Cmp.{nat_cmp_is}
use Rattle.std.specs.List.{AllByRecursion, list_any}
use Rattle.std.specs.List.Sorted.{IsStrictlySortedBy, IsBinarySearchResult}
use Rattle.std.specs.Ordering.{nat_cmp}
use Rattle.std.specs.Result.{is_ok}
use Rattle.std.proofs.lemmas.Bool.Decides.{eqb_tells}
use Rattle.std.proofs.lemmas.List.{get_or_default}
use Rattle.std.proofs.lemmas.List.Folds.{list_any_at, list_any_none}
use Rattle.std.proofs.lemmas.List.Sorted.{searched}
use Rattle.std.proofs.lemmas.Map.Keys.{below_from_sorted}
use Rattle.std.proofs.lemmas.Bool.{cases_lt}

-- no number falls below an earlier one
rising : (xs : List ℕ) → IsStrictlySortedBy nat_cmp xs → (i j : ℕ) → i ≤ j → j < length xs → get_or xs i 0 ≤ get_or xs j 0
rising xs sorted i j upto within = at (cases_lt i j)
  where
    at : (i < j) ⊎ (j ≤ i) → get_or xs i 0 ≤ get_or xs j 0
    at (inl below) = let less = below_from_sorted xs i j 0 sorted below within in omega arith
    at (inr above) = let same : i ≡ j = omega arith in let equal : get_or xs i 0 ≡ get_or xs j 0 = ap (λ k. get_or xs k 0) same in omega arith

-- numbers that differ
apart : (x y : ℕ) → ¬ (x ≡ y) → eqb x y ≡ false
apart x y differ = elim (eqb_tells x y) [ inl both ↦ absurd (differ both.1) | inr both ↦ both.0 ]

-- a binary search finds what is listed
pub search_finds : (xs : List ℕ) (x : ℕ) (r : Result ℕ ℕ) → IsStrictlySortedBy nat_cmp xs → IsBinarySearchResult (λ y. nat_cmp y x) xs r → is_ok r ≡ list_any (eqb x) xs
search_finds xs x r sorted position = at r (searched xs x r position (rising xs sorted))
  where
    at : (s : Result ℕ ℕ)
        → MatchResult s (λ i. (i < length xs) × (get_or xs i 0 ≡ x)) (λ i. (i ≤ length xs) × ((k : ℕ) → k < i → get_or xs k 0 < x) × ((k : ℕ) → i ≤ k → k < length xs → x < get_or xs k 0))
        → is_ok s ≡ list_any (eqb x) xs
    at (Ok i) found = sym (list_any_at (eqb x) xs i 0 found.0 (eq-eqb x (get_or xs i 0) (sym found.1)))
    at (Err i) none =
        let each : All (λ y. eqb x y ≡ false) xs = λ k d within. ap (eqb x) (get_or_default xs k d 0 within) ∙ apart x (get_or xs k 0) (λ same. elsewhere i none k within same (cases_lt k i)) in
        sym (list_any_none (eqb x) xs each)
      where
        elsewhere : (j : ℕ) → (j ≤ length xs) × ((m : ℕ) → m < j → get_or xs m 0 < x) × ((m : ℕ) → j ≤ m → m < length xs → x < get_or xs m 0)
            → (k : ℕ) → k < length xs → x ≡ get_or xs k 0 → (k < j) ⊎ (j ≤ k) → ⊥
        elsewhere j gap k within same (inl below) = let less = gap.1 k below in omega arith
        elsewhere j gap k within same (inr above) = let more = gap.2 k above within in omega arith

below_at_end : (xs : List ℕ) (y x : ℕ) → AllByRecursion (λ z. nat_cmp y z ≡ Less) xs → y < x → AllByRecursion (λ z. nat_cmp y z ≡ Less) (xs ++ x ∷ [])
below_at_end [] y x all less = (sym (nat_cmp_is y x Less less), tt)
below_at_end (z ∷ zs) y x all less = (all.0, below_at_end zs y x all.1 less)

-- a number above all others at the end
pub sorted-push : (xs : List ℕ) (x : ℕ) → IsStrictlySortedBy nat_cmp xs → All (λ y. y < x) xs → IsStrictlySortedBy nat_cmp (xs ++ x ∷ [])
unfolding IsStrictlySortedBy
sorted-push [] x sorted below = (tt, tt)
sorted-push (y ∷ ys) x sorted below =
    (below_at_end ys y x sorted.0 (below 0 y (omega arith)), sorted-push ys x sorted.1 (λ k d within. below (suc k) d (omega (arith, within))))
