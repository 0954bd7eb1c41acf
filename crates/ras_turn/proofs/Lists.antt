-- Views by their seats, fronts of lists, and the entries of one maker.
use Rattle.std.proofs.Common.{◌≡◌, ◌≢◌, ◌⊎◌, inl, inr, ℕ, zero, suc, ◌<◌, List, [], ◌∷◌, ◌++◌, map, length, drop, cond, eqb, eq-eqb, ne_eqb, set, sym, refl, ap, ◌∙◌, subst, ⊎_elim, arith, Bool, append_assoc}
use mathlib.Core.Option.{some, some-injective, some-ne-none}
use mathlib.Core.List.{IsPrefix}
use lib.ListN.{get_elem?}
use Rattle.std.specs.List.{All, HoldsAt}
use Rattle.std.proofs.Math.Seq.{drop-append_seam}
use Rattle.std.proofs.lemmas.List.{append-nil}
use Rattle.std.proofs.lemmas.List.Elements.{filter-append}
use Rattle.atomic_table.proofs.Lists.{at_set}
use Rattle.ras_turn.specs.Entries.{made_by, Extends}

module _ {A : Type 0} where
  pub set_at : (l : List A) (i : ℕ) (a b : A) → get_elem? l i ≡ some a → get_elem? (set l i b) i ≡ some b
  set_at [] i a b e = absurd (some-ne-none a (sym e))
  set_at (x ∷ xs) zero a b e = refl
  set_at (x ∷ xs) (suc i) a b e = set_at xs i a b e

  pub at_end : (l : List A) (a b : A) (j : ℕ) → get_elem? (l ++ a ∷ []) j ≡ some b → (get_elem? l j ≡ some b) ⊎ ((j ≡ length l) × (a ≡ b))
  at_end [] a b zero e = inr (refl, some-injective a b e)
  at_end [] a b (suc j) e = absurd (some-ne-none b (sym e))
  at_end (x ∷ xs) a b zero e = inl e
  at_end (x ∷ xs) a b (suc j) e = ⊎_elim inl (λ t. inr (ap suc t.0, t.1)) (at_end xs a b j e)

  -- what holds of the place that was set and of every other one holds of each
  pub each_set : (P : ℕ → A → Type 0) (l : List A) (i : ℕ) (a : A) → P i a → ((j : ℕ) (b : A) → j ≢ i → get_elem? l j ≡ some b → P j b)
      → (j : ℕ) (b : A) → get_elem? (set l i a) j ≡ some b → P j b
  each_set P l i a here there j b e =
      ⊎_elim (λ (t : (j ≡ i) × (a ≡ b)). subst (λ (y : ℕ × A). P y.0 y.1) (λ k. (sym t.0 k, t.1 k)) here) (λ (t : (j ≢ i) × (get_elem? l j ≡ some b)). there j b t.0 t.1) (at_set l i j a b e)

  pub each_snoc : (P : ℕ → A → Type 0) (l : List A) (a : A) → P (length l) a → ((j : ℕ) (b : A) → get_elem? l j ≡ some b → P j b)
      → (j : ℕ) (b : A) → get_elem? (l ++ a ∷ []) j ≡ some b → P j b
  each_snoc P l a here there j b e = ⊎_elim (there j b) (λ (t : (j ≡ length l) × (a ≡ b)). subst (λ (y : ℕ × A). P y.0 y.1) (λ k. (sym t.0 k, t.1 k)) here) (at_end l a b j e)

  pub whole : (l : List A) → IsPrefix l l
  whole l = ([], append-nil l)

  pub longer : (a b c : List A) → IsPrefix a b → IsPrefix b c → IsPrefix a c
  longer a b c p q = (p.0 ++ q.0, sym (append_assoc a p.0 q.0) ∙ ap (λ (x : List A). x ++ q.0) p.1 ∙ q.1)

  -- what holds of each element by its place, with one more at the end
  pub each_place : (P : ℕ → A → Type 0) (l : List A) (a : A) → ((k : ℕ) → k < length l → HoldsAt (P k) l k) → P (length l) a → (k : ℕ) → k < length (l ++ a ∷ []) → HoldsAt (P k) (l ++ a ∷ []) k
  each_place P [] a all here zero near d = here
  each_place P [] a all here (suc k) near d = absurd (omega arith)
  each_place P (x ∷ xs) a all here zero near d = all 0 (omega arith) d
  each_place P (x ∷ xs) a all here (suc k) near d = each_place (λ i. P (suc i)) xs a (λ i h. all (suc i) (omega arith)) here k (omega arith) d

  pub all_front : (P : A → Type 0) (l : List A) (a : A) → All P (l ++ a ∷ []) → All P l
  all_front P [] a all k d near = absurd (omega arith)
  all_front P (x ∷ xs) a all zero d near = all 0 d (omega arith)
  all_front P (x ∷ xs) a all (suc k) d near = all_front P xs a (λ i e h. all (suc i) e (omega arith)) k d (omega arith)

  pub all_last : (P : A → Type 0) (l : List A) (a : A) → All P (l ++ a ∷ []) → P a
  all_last P [] a all = all 0 a (omega arith)
  all_last P (x ∷ xs) a all = all_last P xs a (λ i e h. all (suc i) e (omega arith))

  pub map_back : {B : Type 0} (f : A → B) (l : List A) (a : A) (bs : List B) → map f (l ++ a ∷ []) ++ bs ≡ map f l ++ f a ∷ bs
  map_back f [] a bs = refl
  map_back {B} f (x ∷ xs) a bs = ap (λ (ys : List B). f x ∷ ys) (map_back f xs a bs)

module _ {E : Type 0} where
  pub made_by-own : (k : ℕ) (more : List (ℕ × E)) → All (λ (e : ℕ × E). e.0 ≡ k) more → made_by k more ≡ more
  made_by-own k [] all = refl
  made_by-own k (e ∷ es) all = let here : e.0 ≡ k = all 0 e (omega arith) in
      ap (λ (b : Bool). cond b (e ∷ made_by k es) (made_by k es)) (eq-eqb e.0 k here) ∙ ap (λ (xs : List (ℕ × E)). e ∷ xs) (made_by-own k es (λ i d h. all (suc i) d (omega arith)))

  pub made_by-other : (k j : ℕ) (more : List (ℕ × E)) → j ≢ k → All (λ (e : ℕ × E). e.0 ≡ k) more → made_by j more ≡ []
  made_by-other k j [] ne all = refl
  made_by-other k j (e ∷ es) ne all = let here : e.0 ≡ k = all 0 e (omega arith) in
      ap (λ (b : Bool). cond b (e ∷ made_by j es) (made_by j es)) (ne_eqb e.0 j (λ h. ne (sym h ∙ here))) ∙ made_by-other k j es ne (λ i d h. all (suc i) d (omega arith))

  pub made_by-kept : (k j : ℕ) (a b : List (ℕ × E)) → j ≢ k → Extends k a b → made_by j b ≡ made_by j a
  made_by-kept k j a b ne x =
      ap (made_by j) x.1 ∙ filter-append (λ (e : ℕ × E). eqb e.0 j) a x.0 ∙ ap (λ (xs : List (ℕ × E)). made_by j a ++ xs) (made_by-other k j x.0 ne x.2) ∙ append-nil (made_by j a)

  pub made_by-more : (k : ℕ) (a b : List (ℕ × E)) (x : Extends k a b) → made_by k b ≡ made_by k a ++ x.0
  made_by-more k a b x = ap (made_by k) x.1 ∙ filter-append (λ (e : ℕ × E). eqb e.0 k) a x.0 ∙ ap (λ (xs : List (ℕ × E)). made_by k a ++ xs) (made_by-own k x.0 x.2)

  pub Extends-prefix : (k : ℕ) (a b : List (ℕ × E)) → Extends k a b → IsPrefix a b
  Extends-prefix k a b x = (x.0, sym x.1)

  pub made_by-extended : (k : ℕ) (a b : List (ℕ × E)) → Extends k a b → made_by k b ≡ made_by k a ++ drop (length a) b
  made_by-extended k a b x = made_by-more k a b x ∙ ap (λ (xs : List (ℕ × E)). made_by k a ++ xs) (sym (drop-append_seam a x.0) ∙ ap (drop (length a)) (sym x.1))
