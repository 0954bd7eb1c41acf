-- A map that is copied entry by entry.
use Rattle.std.proofs.Common.{◌≡◌, Bool, true, false, cond, List, [], ◌∷◌, ◌++◌, Option, Some, None, refl, sym, ap, subst, ◌∙◌, Ordering, Less, Equal, Greater}
use Rattle.std.specs.BTreeMap.{BTreeMap, UpdatesBy, get, is_at}
use Rattle.std.specs.Cmp.{IsTotalOrder}
use Rattle.std.specs.List.{AllByRecursion}
use Rattle.std.specs.List.Sorted.{IsStrictlySortedBy}
use Rattle.std.specs.Map.{keys_of, lookup}
use Rattle.std.specs.Option.{IsSomeAnd, MatchOption, option_or}
use Rattle.std.specs.Ordering.{is_eq, ordering_reverse}
use Rattle.std.proofs.lemmas.Cmp.{tied_itself}
use Rattle.std.proofs.lemmas.Map.Lookups.{CmpEqualImpliesEq}
use Rattle.std.proofs.lemmas.Map.Views.{tells_apart}

module _ {K X : Type 0} (R : K → K → Ordering) (total : IsTotalOrder R) (exact : CmpEqualImpliesEq R) (Same : X → X → Type 0) where
  -- nothing for nothing, and a copy for each value
  abbrev pub AreCopies : Option X → Option X → Type 0
  AreCopies o n = MatchOption o (n ≡ None) (λ v. IsSomeAnd n (Same v))

  push_at : (b : Bool) (v : X) (rest : Option X) (e : Option X) → option_or (cond b (Some v) rest) e ≡ cond b (Some v) (option_or rest e)
  push_at true v rest e = refl
  push_at false v rest e = refl

  -- one entry more
  lookup-push : (es : List (K × X)) (k : K) (v : X) (q : K)
      → lookup (is_at (R q)) (es ++ (k, v) ∷ []) ≡ option_or (lookup (is_at (R q)) es) (cond (is_at (R q) k) (Some v) None)
  lookup-push [] k v q = refl
  lookup-push (e ∷ es) k v q =
      ap (λ rest. cond (is_at (R q) e.0) (Some e.1) rest) (lookup-push es k v q)
      ∙ sym (push_at (is_at (R q) e.0) e.1 (lookup (is_at (R q)) es) (cond (is_at (R q) k) (Some v) None))

  turned : (r : Ordering) → is_eq (ordering_reverse r) ≡ is_eq r
  turned Less = refl
  turned Equal = refl
  turned Greater = refl

  both_ways : (k q : K) → is_at (R q) k ≡ is_at (R k) q
  both_ways k q = ap is_eq (total.antisymm q k) ∙ turned (R k q)

  -- a key above all isn't found
  above_all : (es : List (K × X)) (k : K) (v : X) (rest : List (K × X)) → IsStrictlySortedBy R (keys_of (es ++ (k, v) ∷ rest)) → lookup (is_at (R k)) es ≡ None
  unfolding IsStrictlySortedBy
  above_all [] k v rest sorted = refl
  above_all (e ∷ es) k v rest sorted =
      ap (λ b. cond b (Some e.1) (lookup (is_at (R k)) es)) (below es sorted.0) ∙ above_all es k v rest sorted.1
    where
      later : (ds : List (K × X)) → AllByRecursion (λ y. R e.0 y ≡ Less) (keys_of (ds ++ (k, v) ∷ rest)) → R e.0 k ≡ Less
      later [] all = all.0
      later (d ∷ ds) all = later ds all.1

      below : (ds : List (K × X)) → AllByRecursion (λ y. R e.0 y ≡ Less) (keys_of (ds ++ (k, v) ∷ rest)) → is_at (R k) e.0 ≡ false
      below ds all = both_ways e.0 k ∙ ap is_eq (later ds all)

  copied_at : (b : Bool) (before : Option X) (v w : X) (o n : Option X) → n ≡ cond b (Some w) o → (b ≡ true → before ≡ None) → Same v w → AreCopies before o
      → AreCopies (option_or before (cond b (Some v) None)) n
  copied_at true before v w o n is none same copies =
      subst (λ x. AreCopies (option_or x (Some v)) n) (sym (none refl)) (subst (λ x. IsSomeAnd x (Same v)) (sym is) same)
  copied_at false None v w o n is none same copies = is ∙ copies
  copied_at false (Some u) v w o n is none same copies = subst (λ x. IsSomeAnd x (Same u)) (sym is) copies

  -- one entry more is copied
  pub copied-push : (es : List (K × X)) (k : K) (v w : X) (rest : List (K × X)) (old new : BTreeMap K X)
      → IsStrictlySortedBy R (keys_of (es ++ (k, v) ∷ rest)) → UpdatesBy R (R k) old new (Some w) → Same v w
      → ((q : K) → AreCopies (lookup (is_at (R q)) es) (get R old q)) → (q : K) → AreCopies (lookup (is_at (R q)) (es ++ (k, v) ∷ [])) (get R new q)
  copied-push es k v w rest old new sorted updates same copies q =
      subst (λ o. AreCopies o (get R new q))
      (ap (λ b. option_or (lookup (is_at (R q)) es) (cond b (Some v) None)) (sym (both_ways k q)) ∙ sym (lookup-push es k v q))
      (copied_at (is_at (R k) q) (lookup (is_at (R q)) es) v w (get R old q) (get R new q) (updates.0 q)
      (λ is. subst (λ x. lookup (is_at (R x)) es ≡ None) (tells_apart exact k q is) (above_all es k v rest sorted)) same (copies q))
