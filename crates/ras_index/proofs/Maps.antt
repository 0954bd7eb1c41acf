-- What a look-up finds after an entry is put or taken out, where the order tells all keys apart.
use Rattle.std.proofs.Common.{◌≡◌, false, cond, List, [], ◌∷◌, Some, None, refl, sym, ap, ◌∙◌}
use Rattle.std.specs.Cmp.{IsTotalOrder}
use Rattle.std.specs.List.Sorted.{IsStrictlySortedBy}
use Rattle.std.specs.Map.{keys_of, lookup, remove_entry}
use Rattle.std.specs.BTreeMap.{insert_entry, is_at}
use Rattle.std.specs.Ordering.{is_eq, match_ordering}
use Rattle.std.specs.declared.cmp.Ordering.{Ordering}
use Rattle.std.specs.declared.cmp.Ordering.TheVariants.{Less, Equal, Greater}
use Rattle.std.proofs.lemmas.Cmp.{tied_itself, eq_by_cmp_equiv}
use Rattle.std.proofs.lemmas.Map.{lookup-remove_entry}
use Rattle.std.proofs.lemmas.Map.Keys.{IsDistinct-from_sorted}
use Rattle.std.proofs.lemmas.Map.Lookups.{CmpEqualImpliesEq}
use Rattle.std.proofs.lemmas.Map.Views.{tells_apart}

-- other keys don't tie
apart : {K : Type 0} {R : K → K → Ordering} (exact : CmpEqualImpliesEq R) (q p : K) → ¬ (q ≡ p) → (r : Ordering) → R q p ≡ r → is_at (R q) p ≡ false
apart exact q p other Less is = ap is_eq is
apart exact q p other Equal is = absurd (other (exact q p is))
apart exact q p other Greater is = ap is_eq is

module _ {K X : Type 0} {R : K → K → Ordering} (o : IsTotalOrder R) (exact : CmpEqualImpliesEq R) where
  -- one step of a put, by how the key stands to the first entry's
  put_step : (r : Ordering) (p : K) (v : X) (e : K × X) (es : List (K × X)) → R p e.0 ≡ r → lookup (is_at (R p)) (insert_entry R es p v) ≡ Some v
      → lookup (is_at (R p)) (match_ordering r ((p, v) ∷ e ∷ es) ((e.0, v) ∷ es) (e ∷ insert_entry R es p v)) ≡ Some v
  put_step Less p v e es is rest = ap (λ s. cond (is_eq s) (Some v) (lookup (is_at (R p)) (e ∷ es))) (tied_itself o p)
  put_step Equal p v e es is rest = ap (λ s. cond (is_eq s) (Some v) (lookup (is_at (R p)) es)) is
  put_step Greater p v e es is rest = ap (λ s. cond (is_eq s) (Some e.1) (lookup (is_at (R p)) (insert_entry R es p v))) is ∙ rest

  -- a value that is put is found
  pub lookup-put : (es : List (K × X)) (p : K) (v : X) → lookup (is_at (R p)) (insert_entry R es p v) ≡ Some v
  lookup-put [] p v = ap (λ s. cond (is_eq s) (Some v) None) (tied_itself o p)
  lookup-put (e ∷ es) p v = put_step (R p e.0) p v e es refl (lookup-put es p v)

  put_other : (r : Ordering) (p q : K) (v : X) (e : K × X) (es : List (K × X)) → R p e.0 ≡ r → ¬ (q ≡ p)
      → lookup (is_at (R q)) (insert_entry R es p v) ≡ lookup (is_at (R q)) es
      → lookup (is_at (R q)) (match_ordering r ((p, v) ∷ e ∷ es) ((e.0, v) ∷ es) (e ∷ insert_entry R es p v)) ≡ lookup (is_at (R q)) (e ∷ es)
  put_other Less p q v e es is other rest = ap (λ b. cond b (Some v) (lookup (is_at (R q)) (e ∷ es))) (apart exact q p other (R q p) refl)
  put_other Equal p q v e es is other rest =
      let none : is_at (R q) e.0 ≡ false = ap (is_at (R q)) (sym (exact p e.0 is)) ∙ apart exact q p other (R q p) refl in
      ap (λ b. cond b (Some v) (lookup (is_at (R q)) es)) none ∙ sym (ap (λ b. cond b (Some e.1) (lookup (is_at (R q)) es)) none)
  put_other Greater p q v e es is other rest = ap (λ w. cond (is_at (R q) e.0) (Some e.1) w) rest

  -- what other keys find stays
  pub lookup-put-other : (es : List (K × X)) (p q : K) (v : X) → ¬ (q ≡ p) → lookup (is_at (R q)) (insert_entry R es p v) ≡ lookup (is_at (R q)) es
  lookup-put-other [] p q v other = ap (λ b. cond b (Some v) None) (apart exact q p other (R q p) refl)
  lookup-put-other (e ∷ es) p q v other = put_other (R p e.0) p q v e es refl other (lookup-put-other es p q v other)

  -- a look-up after an entry is taken out
  removed : (es : List (K × X)) (p q : K) → IsStrictlySortedBy R (keys_of es) → lookup (is_at (R q)) (remove_entry (is_at (R p)) es) ≡ cond (is_at (R p) q) None (lookup (is_at (R q)) es)
  removed es p q sorted =
      lookup-remove_entry (eq_by_cmp_equiv o) (is_at (R p)) (λ x y tie. ap (λ z. is_eq (R z y)) (tells_apart exact p x tie)) q es (IsDistinct-from_sorted R (keys_of es) sorted)

  -- the value that was taken out isn't found
  pub lookup-removed : (es : List (K × X)) (p : K) → IsStrictlySortedBy R (keys_of es) → lookup (is_at (R p)) (remove_entry (is_at (R p)) es) ≡ None
  lookup-removed es p sorted =
      removed es p p sorted ∙ ap (λ s. cond (is_eq s) None (lookup (is_at (R p)) es)) (tied_itself o p)

  -- what other keys find stays
  pub lookup-removed-other : (es : List (K × X)) (p q : K) → IsStrictlySortedBy R (keys_of es) → ¬ (q ≡ p) → lookup (is_at (R q)) (remove_entry (is_at (R p)) es) ≡ lookup (is_at (R q)) es
  lookup-removed-other es p q sorted other =
      removed es p q sorted ∙ ap (λ b. cond b None (lookup (is_at (R q)) es)) (apart exact p q (λ same. other (sym same)) (R p q) refl)
