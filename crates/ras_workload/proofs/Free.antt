-- Whether one of a list passes a test, one after the other.
use Rattle.std.proofs.Common.{◌≡◌, ℕ, zero, suc, ◌+◌, Bool, true, false, ◌||◌, List, [], ◌∷◌, take, Option, Some, None, refl, ap, sym, subst, ◌∙◌, arith}
use Rattle.std.specs.Prelude.{slice_get}
use Rattle.std.specs.List.{list_any}

none_of : (a b : Bool) → a ≡ false → b ≡ false → (a || b) ≡ false
none_of true b one other = absurd cc
none_of false b one other = other

neither : (a b : Bool) → (a || b) ≡ false → (a ≡ false) × (b ≡ false)
neither true b is = absurd cc
neither false b is = (refl, is)

some_of : (a b : Bool) → b ≡ true → (a || b) ≡ true
some_of true b is = refl
some_of false b is = is

front_of : (a b : Bool) → a ≡ true → (a || b) ≡ true
front_of true b is = refl
front_of false b is = absurd cc

module _ {X : Type 0} (p : X → Bool) where
  pub none_more : (xs : List X) (k : ℕ) (x : X) → slice_get xs k ≡ Some x → p x ≡ false → list_any p (take k xs) ≡ false → list_any p (take (k + 1) xs) ≡ false
  none_more [] k x at fails none = absurd cc
  none_more (y ∷ xs) zero x at fails none = let same : y ≡ x = cc in none_of (p y) false (ap p same ∙ fails) refl
  none_more (y ∷ xs) (suc k) x at fails none =
      let parts = neither (p y) (list_any p (take k xs)) none in
      let next : suc k + 1 ≡ suc (k + 1) = omega arith in
      ap (λ n. list_any p (take n (y ∷ xs))) next ∙ none_of (p y) (list_any p (take (k + 1) xs)) parts.0 (none_more xs k x at fails parts.1)

  pub one_passes : (xs : List X) (k : ℕ) (x : X) → slice_get xs k ≡ Some x → p x ≡ true → list_any p xs ≡ true
  one_passes [] k x at is = absurd cc
  one_passes (y ∷ xs) zero x at is = let same : y ≡ x = cc in front_of (p y) (list_any p xs) (ap p same ∙ is)
  one_passes (y ∷ xs) (suc k) x at is = some_of (p y) (list_any p xs) (one_passes xs k x at is)
