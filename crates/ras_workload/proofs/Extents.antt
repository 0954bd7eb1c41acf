-- Extents of tiles, one at a time.
use Rattle.std.proofs.Common.{◌≡◌, ℕ, zero, suc, ◌+◌, ◌*◌, ◌<◌, ◌≤◌, ◌==◌, nat_le, Bool, true, false, ◌&&◌, ◌⊎◌, inl, inr, List, [], ◌∷◌, ◌++◌, length, take, get_or, leb-true, leb-false, refl, sym, ap, subst, ◌∙◌, arith}
use Rattle.std.specs.List.{fold, list_all}
use Rattle.std.proofs.lemmas.Bool.{and_parts}
use Rattle.std.proofs.lemmas.List.{take_more}
use Rattle.std.proofs.lemmas.List.Folds.{list_all_at}
use Rattle.std.proofs.lemmas.List.Sums.{fold-append}
use Rattle.std.proofs.Math.Nat.{mul-le-mul_left}
use Rattle.ras_domain.specs.declared.TheConstants.{MAX_TILE_CELLS}
use Rattle.spec_workloads.specs.TypeLines.{default_extent, repeated}
use Rattle.ras_workload.specs.Kept.{are_extents}

-- ---- extents that are told

grows : (xs : List ℕ) (a : ℕ) → list_all (λ extent. nat_le 1 extent) xs ≡ true → a ≤ fold ◌*◌ a xs
grows [] a each = omega arith
grows (x ∷ xs) a each =
    let parts = and_parts (nat_le 1 x) (list_all (λ extent. nat_le 1 extent) xs) each in
    let some : 1 ≤ x = leb-true 1 x parts.0 in
    let more : a * 1 ≤ a * x = mul-le-mul_left a some in
    let rest : a * x ≤ fold ◌*◌ (a * x) xs = grows xs (a * x) parts.1 in
    omega (arith, more, rest)

front_grows : (i : ℕ) (xs : List ℕ) (a : ℕ) → list_all (λ extent. nat_le 1 extent) xs ≡ true → fold ◌*◌ a (take i xs) ≤ fold ◌*◌ a xs
front_grows zero xs a each = grows xs a each
front_grows (suc i) [] a each = omega arith
front_grows (suc i) (x ∷ xs) a each = front_grows i xs (a * x) (and_parts (nat_le 1 x) (list_all (λ extent. nat_le 1 extent) xs) each).1

both_false : (a b c : Bool) → ((b ≡ false) ⊎ (b ≡ true → c ≡ false)) → ((a && b) && c) ≡ false
both_false true true true (inl is) = absurd cc
both_false true true true (inr is) = is refl
both_false true true false is = refl
both_false true false c is = refl
both_false false b c is = refl

pub cells_more : (extents : List ℕ) (i cells extent : ℕ) → i < length extents → extent ≡ get_or extents i 0 → cells ≡ fold ◌*◌ 1 (take i extents)
    → cells * extent ≡ fold ◌*◌ 1 (take (i + 1) extents)
cells_more extents i cells extent within is so_far =
    sym (ap (fold ◌*◌ 1) (take_more extents i 0 within) ∙ fold-append ◌*◌ 1 (take i extents) (get_or extents i 0 ∷ [])
    ∙ ap (λ n. n * get_or extents i 0) (sym so_far) ∙ ap (λ n. cells * n) (sym is))

pub extents_refused : (axes : ℕ) (extents : List ℕ) (i cells extent : ℕ) → i < length extents → extent ≡ get_or extents i 0 → cells ≡ fold ◌*◌ 1 (take i extents)
    → ((extent ≡ 0) ⊎ (MAX_TILE_CELLS < cells * extent)) → are_extents axes extents ≡ false
extents_refused axes extents i cells extent within is so_far (inl none) =
    both_false (length extents == axes) _ _ (inl (list_all_at (λ extent. nat_le 1 extent) extents i 0 within (ap (nat_le 1) (sym is ∙ none))))
extents_refused axes extents i cells extent within is so_far (inr many) =
    both_false (length extents == axes) (list_all (λ extent. nat_le 1 extent) extents) (nat_le (fold ◌*◌ 1 extents) MAX_TILE_CELLS) (inr (λ each. large (front_grows (i + 1) extents 1 each)))
  where
    large : fold ◌*◌ 1 (take (i + 1) extents) ≤ fold ◌*◌ 1 extents → nat_le (fold ◌*◌ 1 extents) MAX_TILE_CELLS ≡ false
    large low = let k : MAX_TILE_CELLS < fold ◌*◌ 1 extents = omega (arith, many, low, cells_more extents i cells extent within is so_far) in grind arith

-- ---- extents that are not

pub repeated_more : (k n : ℕ) → repeated (k + 1) n ≡ repeated k n ++ n ∷ []
repeated_more zero n = refl
repeated_more (suc k) n = let same : suc k + 1 ≡ suc (k + 1) = omega arith in ap (λ m. repeated m n) same ∙ ap (λ xs. n ∷ xs) (repeated_more k n)

pub repeated_length : (k n : ℕ) → length (repeated k n) ≡ k
repeated_length zero n = refl
repeated_length (suc k) n = ap suc (repeated_length k n)

pub defaults_pass : (axes : ℕ) → 1 ≤ axes → axes ≤ 6 → are_extents axes (repeated axes (default_extent axes)) ≡ true
defaults_pass zero some few = absurd (omega arith)
defaults_pass (suc zero) some few = refl
defaults_pass (suc (suc zero)) some few = refl
defaults_pass (suc (suc (suc zero))) some few = refl
defaults_pass (suc (suc (suc (suc zero)))) some few = refl
defaults_pass (suc (suc (suc (suc (suc zero))))) some few = refl
defaults_pass (suc (suc (suc (suc (suc (suc zero)))))) some few = refl
defaults_pass (suc (suc (suc (suc (suc (suc (suc n))))))) some few = absurd (let k : suc (suc (suc (suc (suc (suc (suc n)))))) ≤ 6 = few in omega arith)
