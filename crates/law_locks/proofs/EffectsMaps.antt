-- Two lists of entries with the same keys, or with the same to show at a key, stay so where both are changed alike.
use Rattle.std.proofs.Common.{◌≡◌, ℕ, Bool, true, false, cond, List, [], ◌∷◌, Option, Some, None, option_map, Ordering, Less, Equal, Greater, refl, sym, ap, ◌∙◌, subst, ⊎_elim}
use Rattle.std.specs.Cmp.{eq_by_cmp_equiv}
use Rattle.std.specs.BTreeMap.{insert_entry}
use Rattle.std.specs.List.Sorted.{IsStrictlySortedBy}
use Rattle.std.specs.Map.{keys_of, lookup, remove_entry}
use Rattle.std.specs.Ordering.{eq_by_cmp, is_eq, match_ordering, nat_cmp}
use Rattle.std.proofs.lemmas.Bool.{cases_Bool}
use Rattle.std.proofs.lemmas.Cmp.{nat_cmp_total}
use Rattle.std.proofs.lemmas.Map.{lookup-remove_entry}
use Rattle.std.proofs.lemmas.Map.Keys.{IsDistinct-from_sorted}
use Rattle.std.proofs.lemmas.Map.Lookups.{exact_unsigned}
use Rattle.std.proofs.lemmas.Map.Views.{tells_apart}
use Rattle.law_lists.proofs.Maps.{lookup-insert_entry, lookup-insert_entry_other}

-- ---- keys

module _ {K X : Type 0} (R : K → K → Ordering) (k : K) (v : X) where
  -- the keys after an insertion
  abbrev keys_with : List K → List K
  keys_with [] = k ∷ []
  keys_with (x ∷ xs) = match_ordering (R k x) (k ∷ x ∷ xs) (x ∷ xs) (x ∷ keys_with xs)

  keys_with-insert : (es : List (K × X)) → keys_of (insert_entry R es k v) ≡ keys_with (keys_of es)
  keys_with-insert [] = refl
  keys_with-insert (e ∷ es) = at (R k e.0) (keys_with-insert es)
    where
      at : (r : Ordering) → keys_of (insert_entry R es k v) ≡ keys_with (keys_of es)
          → keys_of (match_ordering r ((k, v) ∷ e ∷ es) ((e.0, v) ∷ es) (e ∷ insert_entry R es k v)) ≡ match_ordering r (k ∷ e.0 ∷ keys_of es) (e.0 ∷ keys_of es)
          (e.0 ∷ keys_with (keys_of es))
      at Less later = refl
      at Equal later = refl
      at Greater later = ap (λ ks. e.0 ∷ ks) later

pub same_keys-insert : {K X : Type 0} (R : K → K → Ordering) (k : K) (v w : X) (es fs : List (K × X)) → keys_of es ≡ keys_of fs
    → keys_of (insert_entry R es k v) ≡ keys_of (insert_entry R fs k w)
same_keys-insert R k v w es fs same =
    keys_with-insert R k v es ∙ ap (keys_with R k v) same ∙ sym (keys_with-insert R k w fs)

-- the keys after a removal
abbrev keys_without : {K : Type 0} → (K → Bool) → List K → List K
keys_without test [] = []
keys_without test (x ∷ xs) = cond (test x) xs (x ∷ keys_without test xs)

keys_without-remove : {K X : Type 0} (test : K → Bool) (es : List (K × X)) → keys_of (remove_entry test es) ≡ keys_without test (keys_of es)
keys_without-remove test [] = refl
keys_without-remove test (e ∷ es) = at (test e.0) (keys_without-remove test es)
  where
    at : (b : Bool) → keys_of (remove_entry test es) ≡ keys_without test (keys_of es)
        → keys_of (cond b es (e ∷ remove_entry test es)) ≡ cond b (keys_of es) (e.0 ∷ keys_without test (keys_of es))
    at true later = refl
    at false later = ap (λ ks. e.0 ∷ ks) later

pub same_keys-remove : {K X : Type 0} (test : K → Bool) (es fs : List (K × X)) → keys_of es ≡ keys_of fs → keys_of (remove_entry test es) ≡ keys_of (remove_entry test fs)
same_keys-remove test es fs same =
    keys_without-remove test es ∙ ap (keys_without test) same ∙ sym (keys_without-remove test fs)

-- ---- what is shown of the entry at a key

module _ {X S : Type 0} (show : X → S) (id : ℕ) where
  abbrev pub shown : List (ℕ × X) → Option S
  shown entries = option_map show (lookup (λ other. is_eq (nat_cmp id other)) entries)

  -- where what is put at a key shows the same
  pub shown-insert : (k : ℕ) (v w : X) (es fs : List (ℕ × X)) → (k ≡ id → show v ≡ show w) → shown es ≡ shown fs → shown (insert_entry nat_cmp es k v) ≡ shown (insert_entry nat_cmp fs k w)
  shown-insert k v w es fs new before = ⊎_elim
      (λ at. let e : id ≡ k = tells_apart exact_unsigned id k at in here e v es ∙ ap Some (new (sym e)) ∙ sym (here e w fs))
      (λ apart.
      ap (option_map show) (lookup-insert_entry_other nat_cmp exact_unsigned k v id es apart) ∙ before
      ∙ sym (ap (option_map show) (lookup-insert_entry_other nat_cmp exact_unsigned k w id fs apart)))
      (cases_Bool (is_eq (nat_cmp id k)))
    where
      here : id ≡ k → (v : X) (es : List (ℕ × X)) → shown (insert_entry nat_cmp es k v) ≡ Some (show v)
      here e v es =
          ap (option_map show) (subst (λ q. lookup (λ other. is_eq (nat_cmp q other)) (insert_entry nat_cmp es k v) ≡ Some v) (sym e)
          (lookup-insert_entry nat_cmp exact_unsigned k v nat_cmp_total es))

  -- where the same is taken out of both
  pub shown-remove : (k : ℕ) (es fs : List (ℕ × X)) → IsStrictlySortedBy nat_cmp (keys_of es) → IsStrictlySortedBy nat_cmp (keys_of fs) → shown es ≡ shown fs
      → shown (remove_entry (λ other. is_eq (nat_cmp k other)) es) ≡ shown (remove_entry (λ other. is_eq (nat_cmp k other)) fs)
  shown-remove k es fs first second before = without es first ∙ at (is_eq (nat_cmp k id)) ∙ sym (without fs second)
    where
      without : (es : List (ℕ × X)) → IsStrictlySortedBy nat_cmp (keys_of es)
          → shown (remove_entry (λ other. is_eq (nat_cmp k other)) es) ≡ option_map show (cond (is_eq (nat_cmp k id)) None (lookup (λ other. is_eq (nat_cmp id other)) es))
      without es sorted =
          ap (option_map show) (lookup-remove_entry (eq_by_cmp_equiv nat_cmp_total) (eq_by_cmp nat_cmp k) ((eq_by_cmp_equiv nat_cmp_total).congr k) id es
          (IsDistinct-from_sorted nat_cmp (keys_of es) sorted))

      at : (b : Bool) → option_map show (cond b None (lookup (λ other. is_eq (nat_cmp id other)) es)) ≡ option_map show (cond b None (lookup (λ other. is_eq (nat_cmp id other)) fs))
      at true = refl
      at false = before
