-- The tile at a place after one was put or taken out, and in a copy.
use Rattle.std.proofs.Common.{◌≡◌, ℤ, Bool, true, false, cond, List, [], ◌∷◌, Option, Some, None, refl, sym, ap, subst, ◌∙◌, Ordering, Less, Equal, Greater}
use Rattle.std.specs.Arc.{arc_value}
use Rattle.std.specs.declared.sync.Arc.{Arc}
use Rattle.std.specs.declared.alloc.Global.{Global}
use Rattle.std.specs.BTreeMap.{insert_entry, is_at}
use Rattle.std.specs.List.{AllZip}
use Rattle.std.specs.List.Sorted.{IsStrictlySortedBy}
use Rattle.std.specs.Map.{keys_of, remove_entry}
use Rattle.std.specs.Option.{option_map}
use Rattle.std.specs.Ordering.{is_eq, ordering_reverse}
use Rattle.std.proofs.lemmas.Cmp.{eq_by_cmp_equiv}
use Rattle.std.proofs.lemmas.Map.{lookup-remove_entry}
use Rattle.std.proofs.lemmas.Map.Keys.{IsDistinct-from_sorted}
use Rattle.std.proofs.lemmas.Map.Views.{tells_apart}
use Rattle.law_lists.proofs.Maps.{lookup-insert_entry, lookup-insert_entry_other}
use Rattle.ras_index.specs.Index.{row_major, value_at}
use Rattle.ras_index.proofs.Slots.{row_major_exact, row_major_total}
use Rattle.ras_tile.specs.Tile.{TileValue}

reversed : (r : Ordering) → is_eq (ordering_reverse r) ≡ is_eq r
reversed Less = refl
reversed Equal = refl
reversed Greater = refl

module _ {V : Type 0} (es : List (List ℤ × V)) (p : List ℤ) where
  put_at : (v : V) (q : List ℤ) (b : Bool) → is_at (row_major p) q ≡ b → value_at (insert_entry row_major es p v) q ≡ cond b (Some v) (value_at es q)
  put_at v q true is =
      subst (λ x. value_at (insert_entry row_major es p v) x ≡ Some v) (tells_apart row_major_exact p q is)
      (lookup-insert_entry row_major row_major_exact p v row_major_total es)
  put_at v q false is =
      lookup-insert_entry_other row_major row_major_exact p v q es
      (ap is_eq (row_major_total.antisymm q p) ∙ reversed (row_major p q) ∙ is)

  -- what is found after a value was put
  pub value-put : (v : V) (q : List ℤ) → value_at (insert_entry row_major es p v) q ≡ cond (is_at (row_major p) q) (Some v) (value_at es q)
  value-put v q = put_at v q (is_at (row_major p) q) refl

  -- what is found after the value was taken out
  pub value-removed : (q : List ℤ) → IsStrictlySortedBy row_major (keys_of es)
      → value_at (remove_entry (is_at (row_major p)) es) q ≡ cond (is_at (row_major p) q) None (value_at es q)
  value-removed q sorted =
      lookup-remove_entry (eq_by_cmp_equiv row_major_total) (is_at (row_major p))
      (λ x y tie. ap (λ z. is_eq (row_major z y)) (tells_apart row_major_exact p x tie)) q es (IsDistinct-from_sorted row_major (keys_of es) sorted)

-- ---- shared tiles

abbrev pub Shared : Type 0
Shared = Arc TileValue Global

same_choice : (b : Bool) (t u : Shared) (rest others : Option Shared) → arc_value u ≡ arc_value t → option_map arc_value others ≡ option_map arc_value rest
    → option_map arc_value (cond b (Some u) others) ≡ option_map arc_value (cond b (Some t) rest)
same_choice true t u rest others same later = ap Some same
same_choice false t u rest others same later = later

-- a copy has the same tile at each place
pub value-shared : (es ds : List (List ℤ × Shared)) (p : List ℤ) → AllZip (λ e d. (d.0 ≡ e.0) × (arc_value d.1 ≡ arc_value e.1)) es ds
    → option_map arc_value (value_at ds p) ≡ option_map arc_value (value_at es p)
value-shared [] [] p all = refl
value-shared [] (d ∷ ds) p all = absurd all
value-shared (e ∷ es) [] p all = absurd all
value-shared (e ∷ es) (d ∷ ds) p all =
    ap (λ k. option_map arc_value (cond (is_at (row_major p) k) (Some d.1) (value_at ds p))) all.0.0
    ∙ same_choice (is_at (row_major p) e.0) e.1 d.1 (value_at es p) (value_at ds p) all.0.1 (value-shared es ds p all.1)
