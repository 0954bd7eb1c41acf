-- What is taken out of a list leaves it shorter.
use Rattle.std.proofs.Common.{◌≡◌, ℕ, suc, ◌+◌, ◌≤◌, Bool, true, false, not, ◌||◌, cond, List, [], ◌∷◌, ◌++◌, length, refl, sym, ap, ◌∙◌, arith}
use Rattle.std.specs.Prelude.{filter}
use Rattle.std.specs.List.{list_any}

module _ {X : Type 0} (p : X → Bool) where
  pub length-filter-le : (xs : List X) → length (filter p xs) ≤ length xs
  length-filter-le [] = omega arith
  length-filter-le (x ∷ xs) = at (p x) (filter p xs) (length-filter-le xs)
    where
      at : (b : Bool) (ys : List X) → length ys ≤ length xs → length (cond b (x ∷ ys) ys) ≤ suc (length xs)
      at true ys few = omega arith
      at false ys few = omega arith

  -- without those that pass it is shorter, where one passes
  pub length-filter-lt : (xs : List X) → list_any p xs ≡ true → length (filter (λ x. not (p x)) xs) + 1 ≤ length xs
  length-filter-lt [] some = absurd cc
  length-filter-lt (x ∷ xs) some = at (p x) some (length-filter-lt xs)
    where
      most : length (filter (λ y. not (p y)) xs) ≤ length xs
      most = others xs
        where
          others : (ys : List X) → length (filter (λ y. not (p y)) ys) ≤ length ys
          others [] = omega arith
          others (y ∷ ys) = keep (not (p y)) (filter (λ z. not (p z)) ys) (others ys)
            where
              keep : (b : Bool) (zs : List X) → length zs ≤ length ys → length (cond b (y ∷ zs) zs) ≤ suc (length ys)
              keep true zs few = omega arith
              keep false zs few = omega arith

      at : (b : Bool) → (b || list_any p xs) ≡ true → (list_any p xs ≡ true → length (filter (λ y. not (p y)) xs) + 1 ≤ length xs)
          → length (cond (not b) (x ∷ filter (λ y. not (p y)) xs) (filter (λ y. not (p y)) xs)) + 1 ≤ suc (length xs)
      at true here later = omega (arith, most)
      at false there later = omega (arith, later there)
