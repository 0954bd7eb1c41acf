-- Folds that don't depend on the order of what they are over.
use Rattle.std.proofs.Common.{◌≡◌, ℕ, zero, suc, ◌<◌, List, [], ◌∷◌, length, get_or, set, fold, refl, sym, ap, ◌∙◌, arith}
use Rattle.std.specs.Prelude.{IsPermutation, swap}
use Rattle.std.proofs.lemmas.List.Edits.{swap_is}
use Rattle.std.proofs.lemmas.List.Sorted.{IsPermutation-keeps}

module _ {S X : Type 0} (step : S → X → S) (exchange : (s : S) (x y : X) → step (step s x) y ≡ step (step s y) x) where
  -- the first element and a later one in each other's place
  with_first : (s : S) (x : X) (xs : List X) (j : ℕ) (d : X) → j < length xs
      → fold step s (get_or xs j d ∷ set xs j x) ≡ fold step s (x ∷ xs)
  with_first s x [] j d h = absurd (omega arith)
  with_first s x (y ∷ ys) zero d h = ap (λ t. fold step t ys) (exchange s y x)
  with_first s x (y ∷ ys) (suc j) d h =
      let inside : j < length ys = omega arith in
      ap (λ t. fold step t (set ys j x)) (exchange s (get_or ys j d) y)
      ∙ with_first (step s y) x ys j d inside
      ∙ ap (λ t. fold step t ys) (exchange s y x)

  both : (s : S) (xs : List X) (i j : ℕ) (d : X) → i < length xs → j < length xs
      → fold step s (set (set xs i (get_or xs j d)) j (get_or xs i d)) ≡ fold step s xs
  both s [] i j d h k = absurd (omega arith)
  both s (x ∷ xs) zero zero d h k = refl
  both s (x ∷ xs) zero (suc j) d h k = let inside : j < length xs = omega arith in with_first s x xs j d inside
  both s (x ∷ xs) (suc i) zero d h k = let inside : i < length xs = omega arith in with_first s x xs i d inside
  both s (x ∷ xs) (suc i) (suc j) d h k =
      let first : i < length xs = omega arith in
      let second : j < length xs = omega arith in
      both (step s x) xs i j d first second

  swapped : (s : S) (xs : List X) (i j : ℕ) → i < length xs → j < length xs → fold step s (swap xs i j) ≡ fold step s xs
  swapped s [] i j h k = absurd (omega arith)
  swapped s (d ∷ xs) i j h k = ap (fold step s) (sym (swap_is (d ∷ xs) i j d h k)) ∙ both s (d ∷ xs) i j d h k

  pub fold-IsPermutation : (s : S) (xs ys : List X) → IsPermutation xs ys → fold step s ys ≡ fold step s xs
  fold-IsPermutation s xs ys moved =
      IsPermutation-keeps xs (λ l. fold step s l ≡ fold step s xs) refl (λ l i j h k e. swapped s l i j h k ∙ e) ys moved
