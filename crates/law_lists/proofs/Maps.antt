-- Lists of entries whose keys ascend: what an insertion and a removal keep, and what a look-up finds afterwards.
use Rattle.std.proofs.Common.{◌≡◌, ◌⊎◌, inl, inr, arith, Contains, Bool, true, false, cond, List, [], ◌∷◌, Some, None, refl, sym, ap, ◌∙◌, subst, Ordering, Less, Equal, Greater, is_eq}
use Rattle.std.specs.Cmp.{IsTotalOrder}
use Rattle.std.specs.BTreeMap.{insert_entry}
use Rattle.std.specs.List.{AllByRecursion}
use Rattle.std.specs.List.Sorted.{IsStrictlySortedBy}
use Rattle.std.specs.Map.{keys_of, lookup, remove_entry}
use Rattle.std.specs.Ordering.{match_ordering, ordering_reverse}
use Rattle.std.proofs.lemmas.Cmp.{tied_itself}
use Rattle.std.proofs.lemmas.List.Elements.{All-from_recursion, recursion_from_All}
use Rattle.std.proofs.lemmas.Map.Lookups.{CmpEqualImpliesEq}
use Rattle.std.proofs.lemmas.Map.Views.{All-keys-insert_entry, All-map-remove_entry}
use Rattle.law_lists.proofs.Each.{each_weaker, each_contained}
use Rattle.law_lists.proofs.Elements.{first_or_later}

-- ---- an insertion

module _ {K X : Type 0} (R : K → K → Ordering) (exact : CmpEqualImpliesEq R) (k : K) (v : X) where
  -- what holds of each entry and of the new one
  each_at : (P : K × X → Type 0) (e : K × X) (es : List (K × X)) (r : Ordering) → R k e.0 ≡ r → P e → AllByRecursion P es → P (k, v)
      → AllByRecursion P (insert_entry R es k v) → AllByRecursion P (match_ordering r ((k, v) ∷ e ∷ es) ((e.0, v) ∷ es) (e ∷ insert_entry R es k v))
  each_at P e es Less is here rest new later = (new, (here, rest))
  each_at P e es Equal is here rest new later = (subst (λ x. P (x, v)) (exact k e.0 is) new, rest)
  each_at P e es Greater is here rest new later = (here, later)

  pub each-insert_entry : (P : K × X → Type 0) (es : List (K × X)) → AllByRecursion P es → P (k, v) → AllByRecursion P (insert_entry R es k v)
  each-insert_entry P [] all new = (new, tt)
  each-insert_entry P (e ∷ es) all new = each_at P e es (R k e.0) refl all.0 all.1 new (each-insert_entry P es all.1 new)

  -- the same of each key
  each_key-insert_entry : (P : K → Type 0) (es : List (K × X)) → AllByRecursion P (keys_of es) → P k → AllByRecursion P (keys_of (insert_entry R es k v))
  each_key-insert_entry P es all new =
      recursion_from_All P (keys_of (insert_entry R es k v)) (All-keys-insert_entry R k v P es (All-from_recursion P (keys_of es) all) new)

  -- the keys ascend
  sorted_at : IsTotalOrder R → (e : K × X) (es : List (K × X)) (r : Ordering) → R k e.0 ≡ r → AllByRecursion (λ y. R e.0 y ≡ Less) (keys_of es)
      → IsStrictlySortedBy R (keys_of es) → IsStrictlySortedBy R (keys_of (insert_entry R es k v))
      → IsStrictlySortedBy R (keys_of (match_ordering r ((k, v) ∷ e ∷ es) ((e.0, v) ∷ es) (e ∷ insert_entry R es k v)))
  unfolding IsStrictlySortedBy
  sorted_at o e es Less is below sorted later =
      ((is, each_weaker (λ y. R e.0 y ≡ Less) (λ y. R k y ≡ Less) (λ y less. o.trans k e.0 y is less) (keys_of es) below), (below, sorted))
  sorted_at o e es Equal is below sorted later = (below, sorted)
  sorted_at o e es Greater is below sorted later =
      (each_key-insert_entry (λ y. R e.0 y ≡ Less) es below (o.antisymm e.0 k ∙ ap ordering_reverse is), later)

  pub sorted-insert_entry : IsTotalOrder R → (es : List (K × X)) → IsStrictlySortedBy R (keys_of es) → IsStrictlySortedBy R (keys_of (insert_entry R es k v))
  unfolding IsStrictlySortedBy
  sorted-insert_entry o [] sorted = (tt, tt)
  sorted-insert_entry o (e ∷ es) sorted = sorted_at o e es (R k e.0) refl sorted.0 sorted.1 (sorted-insert_entry o es sorted.1)

  -- a look-up of another key finds what it found
  other_at : (q : K) (e : K × X) (es : List (K × X)) (r : Ordering) → R k e.0 ≡ r → is_eq (R q k) ≡ false
      → lookup (λ x. is_eq (R q x)) (insert_entry R es k v) ≡ lookup (λ x. is_eq (R q x)) es
      → lookup (λ x. is_eq (R q x)) (match_ordering r ((k, v) ∷ e ∷ es) ((e.0, v) ∷ es) (e ∷ insert_entry R es k v)) ≡ lookup (λ x. is_eq (R q x)) (e ∷ es)
  other_at q e es Less is differs later = ap (λ b. cond b (Some v) (lookup (λ x. is_eq (R q x)) (e ∷ es))) differs
  other_at q e es Equal is differs later =
      let apart : is_eq (R q e.0) ≡ false = subst (λ x. is_eq (R q x) ≡ false) (exact k e.0 is) differs in
      ap (λ b. cond b (Some v) (lookup (λ x. is_eq (R q x)) es)) apart ∙ sym (ap (λ b. cond b (Some e.1) (lookup (λ x. is_eq (R q x)) es)) apart)
  other_at q e es Greater is differs later = ap (λ l. cond (is_eq (R q e.0)) (Some e.1) l) later

  pub lookup-insert_entry_other : (q : K) (es : List (K × X)) → is_eq (R q k) ≡ false → lookup (λ x. is_eq (R q x)) (insert_entry R es k v) ≡ lookup (λ x. is_eq (R q x)) es
  lookup-insert_entry_other q [] differs = ap (λ b. cond b (Some v) None) differs
  lookup-insert_entry_other q (e ∷ es) differs = other_at q e es (R k e.0) refl differs (lookup-insert_entry_other q es differs)

  -- a look-up of the key finds the new value
  same_at : IsTotalOrder R → (e : K × X) (es : List (K × X)) (r : Ordering) → R k e.0 ≡ r → lookup (λ x. is_eq (R k x)) (insert_entry R es k v) ≡ Some v
      → lookup (λ x. is_eq (R k x)) (match_ordering r ((k, v) ∷ e ∷ es) ((e.0, v) ∷ es) (e ∷ insert_entry R es k v)) ≡ Some v
  same_at o e es Less is later = ap (λ r. cond (is_eq r) (Some v) (lookup (λ x. is_eq (R k x)) (e ∷ es))) (tied_itself o k)
  same_at o e es Equal is later = ap (λ r. cond (is_eq r) (Some v) (lookup (λ x. is_eq (R k x)) es)) is
  same_at o e es Greater is later = ap (λ r. cond (is_eq r) (Some e.1) (lookup (λ x. is_eq (R k x)) (insert_entry R es k v))) is ∙ later

  pub lookup-insert_entry : IsTotalOrder R → (es : List (K × X)) → lookup (λ x. is_eq (R k x)) (insert_entry R es k v) ≡ Some v
  lookup-insert_entry o [] = ap (λ r. cond (is_eq r) (Some v) None) (tied_itself o k)
  lookup-insert_entry o (e ∷ es) = same_at o e es (R k e.0) refl (lookup-insert_entry o es)

  -- a key that is there keeps the keys as they are
  key_at : IsTotalOrder R → (e : K × X) (es : List (K × X)) (r : Ordering) → R k e.0 ≡ r → AllByRecursion (λ y. R e.0 y ≡ Less) (keys_of es)
      → ((e.0 ≡ k) ⊎ Contains (keys_of es) k) → (Contains (keys_of es) k → keys_of (insert_entry R es k v) ≡ keys_of es)
      → keys_of (match_ordering r ((k, v) ∷ e ∷ es) ((e.0, v) ∷ es) (e ∷ insert_entry R es k v)) ≡ keys_of (e ∷ es)
  key_at o e es Equal is below has later = refl
  key_at o e es Less is below (inl same) later = absurd (let clash : Less ≡ Equal = sym is ∙ ap (R k) same ∙ tied_itself o k in cc)
  key_at o e es Less is below (inr there) later =
      absurd (let clash : Less ≡ Greater = sym is ∙ o.antisymm k e.0 ∙ ap ordering_reverse (each_contained (λ y. R e.0 y ≡ Less) (keys_of es) k below there) in cc)
  key_at o e es Greater is below (inl same) later = absurd (let clash : Greater ≡ Equal = sym is ∙ ap (R k) same ∙ tied_itself o k in cc)
  key_at o e es Greater is below (inr there) later = ap (λ ks. e.0 ∷ ks) (later there)

  pub keys-insert_entry_there : IsTotalOrder R → (es : List (K × X)) → IsStrictlySortedBy R (keys_of es) → Contains (keys_of es) k → keys_of (insert_entry R es k v) ≡ keys_of es
  unfolding IsStrictlySortedBy
  keys-insert_entry_there o [] sorted has = absurd (omega (arith, has.1))
  keys-insert_entry_there o (e ∷ es) sorted has =
      key_at o e es (R k e.0) refl sorted.0 (first_or_later k e.0 (keys_of es) has) (keys-insert_entry_there o es sorted.1)

-- ---- a removal

module _ {K X : Type 0} (test : K → Bool) where
  -- what holds of each entry
  cut_at : (P : K × X → Type 0) (e : K × X) (es : List (K × X)) (b : Bool) → P e → AllByRecursion P es → AllByRecursion P (remove_entry test es)
      → AllByRecursion P (cond b es (e ∷ remove_entry test es))
  cut_at P e es true here rest later = rest
  cut_at P e es false here rest later = (here, later)

  pub each-remove_entry : (P : K × X → Type 0) (es : List (K × X)) → AllByRecursion P es → AllByRecursion P (remove_entry test es)
  each-remove_entry P [] all = tt
  each-remove_entry P (e ∷ es) all = cut_at P e es (test e.0) all.0 all.1 (each-remove_entry P es all.1)

  -- the same of each key
  each_key-remove_entry : (P : K → Type 0) (es : List (K × X)) → AllByRecursion P (keys_of es) → AllByRecursion P (keys_of (remove_entry test es))
  each_key-remove_entry P es all =
      recursion_from_All P (keys_of (remove_entry test es)) (All-map-remove_entry test (λ e. e.0) P es (All-from_recursion P (keys_of es) all))

  -- the keys ascend
  sorted_cut_at : (R : K → K → Ordering) (e : K × X) (es : List (K × X)) (b : Bool) → AllByRecursion (λ y. R e.0 y ≡ Less) (keys_of es)
      → IsStrictlySortedBy R (keys_of es) → IsStrictlySortedBy R (keys_of (remove_entry test es)) → IsStrictlySortedBy R (keys_of (cond b es (e ∷ remove_entry test es)))
  unfolding IsStrictlySortedBy
  sorted_cut_at R e es true below sorted later = sorted
  sorted_cut_at R e es false below sorted later = (each_key-remove_entry (λ y. R e.0 y ≡ Less) es below, later)

  pub sorted-remove_entry : (R : K → K → Ordering) (es : List (K × X)) → IsStrictlySortedBy R (keys_of es) → IsStrictlySortedBy R (keys_of (remove_entry test es))
  unfolding IsStrictlySortedBy
  sorted-remove_entry R [] sorted = tt
  sorted-remove_entry R (e ∷ es) sorted = sorted_cut_at R e es (test e.0) sorted.0 sorted.1 (sorted-remove_entry R es sorted.1)

-- a look-up that passes no removed key finds what it found
removed_at : {K X : Type 0} (find : K → Bool) (e : K × X) (es rest : List (K × X)) (b : Bool) → (b ≡ true → find e.0 ≡ false) → lookup find rest ≡ lookup find es
    → lookup find (cond b es (e ∷ rest)) ≡ lookup find (e ∷ es)
removed_at find e es rest true differs later = sym (ap (λ b. cond b (Some e.1) (lookup find es)) (differs refl))
removed_at find e es rest false differs later = ap (λ l. cond (find e.0) (Some e.1) l) later

pub lookup-remove_entry_other : {K X : Type 0} (test find : K → Bool) → ((x : K) → test x ≡ true → find x ≡ false) → (es : List (K × X)) → lookup find (remove_entry test es) ≡ lookup find es
lookup-remove_entry_other test find differs [] = refl
lookup-remove_entry_other test find differs (e ∷ es) = removed_at find e es (remove_entry test es) (test e.0) (differs e.0) (lookup-remove_entry_other test find differs es)
