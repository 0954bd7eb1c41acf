-- What an update leaves of the arrays that it doesn't change, and of the tiles that it doesn't write.
use Rattle.std.proofs.Common.{◌≡◌, ℕ, ℤ, Bool, true, false, cond, List, [], ◌∷◌, length, map, filter, All, Contains, Option, Some, None, option_map, ⊎_elim, refl, sym, ap, ◌∙◌, subst, arith}
use Rattle.std.specs.Cmp.{IsTotalOrder, eq_by_cmp_equiv}
use Rattle.std.specs.List.{AllByRecursion}
use Rattle.std.specs.List.Sorted.{IsStrictlySortedBy}
use Rattle.std.specs.Map.{keys_of, lookup}
use Rattle.std.specs.BTreeMap.{insert_entry}
use Rattle.std.specs.Ordering.{int_cmp, is_eq, nat_cmp}
use Rattle.std.specs.Cmp.Lexicographic.{slice_cmp}
use Rattle.std.proofs.lemmas.Bool.{cases_Bool, false_from_ne_true}
use Rattle.std.proofs.lemmas.Cmp.{int_cmp_total, lists_total, nat_cmp_total}
use Rattle.std.proofs.lemmas.Map.{lookup-none}
use Rattle.std.proofs.lemmas.Map.Keys.{IsDistinct-from_sorted}
use Rattle.std.proofs.lemmas.Map.Lookups.{exact_signed, exact_unsigned}
use Rattle.std.proofs.lemmas.Map.Views.{lookup-from_Contains, tells_apart}
use Rattle.ras_cells.specs.Stored.{default_of}
use Rattle.ras_domain.specs.Region.{IsIn, IsOrdered, points_of}
use Rattle.ras_domain.proofs.Points.{Contains-IsIn}
use Rattle.ras_domain.proofs.RowOrder.{points_of-ascends}
use Rattle.ras_grid.specs.Grid.{IsGrid, grid_box, place_box, places_meeting, tile_in}
use Rattle.ras_grid.proofs.Tiles.{IsIn-meet_of, IsIn-place_box, length-grid_box}
use Rattle.ras_domain.proofs.PointSets.{IsOrdered-from_IsIn}
use Rattle.ras_syntax.specs.declared.types.SetType.{SetType}
use Rattle.spec_expressions.specs.Database.{Array, Member, stored_at}
use Rattle.spec_expressions.specs.Shape.{Box}
use Rattle.spec_statements.specs.Agree.{Seen}
use Rattle.spec_statements.specs.Plans.{Plan}
use Rattle.spec_statements.specs.Effects.{Stores, grown_of, number_after, option_flat, or_else, store_for, with_row, with_updated, written_array}
use Rattle.law_lists.proofs.Each.{each_weaker, each_itself}
use Rattle.law_lists.proofs.Elements.{Contains-map}
use Rattle.law_effects.proofs.LockNames.{exact_lists}
use Rattle.law_lists.proofs.Maps.{keys-insert_entry_there, lookup-insert_entry, lookup-insert_entry_other}

-- ---- the arrays of a collection after an update

-- an entry with its key is what a look-up finds
pub found_entry : (arrays : List (ℕ × Array)) (id : ℕ) (array : Array) → IsStrictlySortedBy nat_cmp (keys_of arrays) → Contains arrays (id, array)
    → lookup (λ other. is_eq (nat_cmp id other)) arrays ≡ Some array
found_entry arrays id array sorted has =
    lookup-from_Contains (eq_by_cmp_equiv nat_cmp_total) id array arrays (IsDistinct-from_sorted nat_cmp (keys_of arrays) sorted) has

-- what was written in a row shows of the array at an identifier what the array shows that stood there
abbrev pub IsShown : List (ℕ × Array) → SetType → ℕ → (Array → Seen) → Plan × Stores → Type 0
IsShown arrays of id show one =
    (member : Member) × (one.0.row ≡ member ∷ []) × Contains arrays (member.oid, member.array)
    × (member.oid ≡ id → show (written_array of member.array (grown_of one.0) one.1) ≡ show member.array)

module _ (first : List (ℕ × Array)) (of : SetType) (sorted : IsStrictlySortedBy nat_cmp (keys_of first)) (id : ℕ) (show : Array → Seen) where
  abbrev shown : List (ℕ × Array) → Option Seen
  shown arrays = option_map show (lookup (λ other. is_eq (nat_cmp id other)) arrays)

  -- one row, and then all
  shown_here : (arrays : List (ℕ × Array)) (oid : ℕ) (new old : Array) → Contains first (oid, old) → (oid ≡ id → show new ≡ show old) → shown arrays ≡ shown first
      → shown (insert_entry nat_cmp arrays oid new) ≡ shown first
  shown_here arrays oid new old has same before = ⊎_elim
      (λ at. let e : id ≡ oid = tells_apart exact_unsigned id oid at in
      let found : lookup (λ other. is_eq (nat_cmp id other)) (insert_entry nat_cmp arrays oid new) ≡ Some new =
      subst (λ k. lookup (λ other. is_eq (nat_cmp k other)) (insert_entry nat_cmp arrays oid new) ≡ Some new) (sym e)
      (lookup-insert_entry nat_cmp exact_unsigned oid new nat_cmp_total arrays) in
      let stood : lookup (λ other. is_eq (nat_cmp id other)) first ≡ Some old =
      subst (λ k. lookup (λ other. is_eq (nat_cmp k other)) first ≡ Some old) (sym e) (found_entry first oid old sorted has) in
      ap (option_map show) found ∙ ap Some (same (sym e)) ∙ sym (ap (option_map show) stood))
      (λ apart. ap (option_map show) (lookup-insert_entry_other nat_cmp exact_unsigned oid new id arrays apart) ∙ before)
      (cases_Bool (is_eq (nat_cmp id oid)))

  pub updated-shown : (arrays : List (ℕ × Array)) (made : List (Plan × Stores)) → AllByRecursion (IsShown first of id show) made → shown arrays ≡ shown first
      → shown (with_updated of arrays made) ≡ shown first
  updated-shown arrays [] all before = before
  updated-shown arrays (one ∷ others) all before =
      let (member, row_is, has, same) = all.0 in
      updated-shown (with_row of arrays one.0.row (grown_of one.0) one.1) others all.1
      (subst (λ row. shown (with_row of arrays row (grown_of one.0) one.1) ≡ shown first) (sym row_is)
      (shown_here arrays member.oid (written_array of member.array (grown_of one.0) one.1) member.array has same before))

-- the identifiers stay
abbrev pub IsRewritten : List (ℕ × Array) → Plan × Stores → Type 0
IsRewritten arrays one = (member : Member) × (one.0.row ≡ member ∷ []) × Contains arrays (member.oid, member.array)

module _ (first : List (ℕ × Array)) (of : SetType) (sorted : IsStrictlySortedBy nat_cmp (keys_of first)) where
  keys_here : (arrays : List (ℕ × Array)) (oid : ℕ) (new old : Array) → Contains first (oid, old) → keys_of arrays ≡ keys_of first
      → keys_of (insert_entry nat_cmp arrays oid new) ≡ keys_of first
  keys_here arrays oid new old has same =
      let there : Contains (keys_of first) oid = Contains-map (λ (entry : ℕ × Array). entry.0) first (oid, old) has in
      keys-insert_entry_there nat_cmp exact_unsigned oid new nat_cmp_total arrays (subst (IsStrictlySortedBy nat_cmp) (sym same) sorted)
      (subst (λ ks. Contains ks oid) (sym same) there) ∙ same

  pub updated-keys : (arrays : List (ℕ × Array)) (made : List (Plan × Stores)) → AllByRecursion (IsRewritten first) made → keys_of arrays ≡ keys_of first
      → keys_of (with_updated of arrays made) ≡ keys_of first
  updated-keys arrays [] all same = same
  updated-keys arrays (one ∷ others) all same =
      let (member, row_is, has) = all.0 in
      updated-keys (with_row of arrays one.0.row (grown_of one.0) one.1) others all.1
      (subst (λ row. keys_of (with_row of arrays row (grown_of one.0) one.1) ≡ keys_of first) (sym row_is)
      (keys_here arrays member.oid (written_array of member.array (grown_of one.0) one.1) member.array has same))

-- ---- the points of a tile

-- the tile at a place that has a point of a box is one of those that the box meets
pub met_place : (es : List ℕ) (place p : List ℤ) (region : Box) → IsGrid es → All IsOrdered region → length region ≡ length es → length place ≡ length es
    → IsIn p (grid_box es place) → IsIn p region → Contains (places_meeting es region) place
met_place es place p region grid ordered same long in_tile in_region =
    let alike : length (grid_box es place) ≡ length region = omega (arith, length-grid_box es place long) in
    (Contains-IsIn (place_box es region) place).1
    ((IsIn-place_box es place region grid ordered long same).0
    (IsOrdered-from_IsIn (tile_in es region place) p ((IsIn-meet_of (grid_box es place) region p alike).1 (in_tile, in_region))))

-- ---- what is stored in a tile

-- points that the order takes for the same are the same
pub same_points : (p q : List ℤ) → is_eq (slice_cmp int_cmp p q) ≡ true → p ≡ q
same_points p q = tells_apart (exact_lists int_cmp exact_signed) p q

-- nothing is stored at a point outside
store_for-outside : (p : List ℤ) (region : Box) (stores : Stores) → ¬ IsIn p region → AllByRecursion (λ entry. IsIn entry.0 region) stores → store_for p stores ≡ None
store_for-outside p region stores outside within =
    ap option_flat (lookup-none (λ q. is_eq (slice_cmp int_cmp p q)) stores
    (each_weaker (λ (entry : List ℤ × Option (List ℤ)). IsIn entry.0 region) (λ entry. is_eq (slice_cmp int_cmp p entry.0) ≡ false)
    (λ entry in_region. false_from_ne_true (is_eq (slice_cmp int_cmp p entry.0)) (λ same. outside (subst (λ q. IsIn q region) (sym (same_points p entry.0 same)) in_region))) stores within))

-- what stood at a point stays there where nothing is stored
number_after-outside : (of : SetType) (before : Array) (stores : Stores) (p numbers : List ℤ) → store_for p stores ≡ None → stored_at before p ≡ Some numbers
    → number_after of before stores p ≡ numbers
number_after-outside of before stores p numbers nothing stood =
    let default : List ℤ = (default_of of.cell of.nulls).items in
    ap (λ o. or_else o (or_else (stored_at before p) default)) nothing ∙ ap (λ o. or_else o default) stood

-- a list of entries, rewritten by key, keeps those that pass a test where each of these keeps its value
pub filter-rewritten : {K X : Type 0} (test : K → Bool) (f : K → X) (es : List (K × X)) → AllByRecursion (λ e. test e.0 ≡ true → f e.0 ≡ e.1) es
    → filter (λ (e : K × X). test e.0) (map (λ k. (k, f k)) (map (λ e. e.0) es)) ≡ filter (λ e. test e.0) es
filter-rewritten test f [] all = refl
filter-rewritten {K = K} {X = X} test f (e ∷ es) all = at (test e.0) all.0 (filter-rewritten test f es all.1)
  where
    at : (b : Bool) → (b ≡ true → f e.0 ≡ e.1) → filter (λ (e : K × X). test e.0) (map (λ k. (k, f k)) (map (λ e. e.0) es)) ≡ filter (λ e. test e.0) es
        → cond b ((e.0, f e.0) ∷ filter (λ (e : K × X). test e.0) (map (λ k. (k, f k)) (map (λ e. e.0) es))) (filter (λ (e : K × X). test e.0) (map (λ k. (k, f k)) (map (λ e. e.0) es)))
        ≡ cond b (e ∷ filter (λ e. test e.0) es) (filter (λ e. test e.0) es)
    at true same later = λ i. (e.0, same refl i) ∷ later i
    at false same later = later

-- what a point of the array has is found there
found_point : (array : Array) (entry : List ℤ × List ℤ) → map (λ e. e.0) array.stored ≡ points_of array.domain → Contains array.stored entry → stored_at array entry.0 ≡ Some entry.1
found_point array entry points has =
    let o : IsTotalOrder (slice_cmp int_cmp) = lists_total int_cmp_total in
    lookup-from_Contains (eq_by_cmp_equiv o) entry.0 entry.1 array.stored
    (IsDistinct-from_sorted (slice_cmp int_cmp) (keys_of array.stored) (subst (IsStrictlySortedBy (slice_cmp int_cmp)) (sym points) (points_of-ascends array.domain))) has

-- where no point of a tile is written, the tile stores what it stored
pub tile-kept : (of : SetType) (before : Array) (grown region : Box) (stores : Stores) (test : List ℤ → Bool) → grown ≡ before.domain → map (λ e. e.0) before.stored ≡ points_of before.domain
    → AllByRecursion (λ entry. IsIn entry.0 region) stores → ((p : List ℤ) → test p ≡ true → ¬ IsIn p region)
    → filter (λ entry. test entry.0) (written_array of before grown stores).stored ≡ filter (λ entry. test entry.0) before.stored
tile-kept of before grown region stores test same points within outside =
    let f : List ℤ → List ℤ = number_after of before stores in
    ap (λ ps. filter (λ (entry : List ℤ × List ℤ). test entry.0) (map (λ p. (p, f p)) ps)) (ap points_of same ∙ sym points)
    ∙ filter-rewritten test f before.stored
    (each_weaker (Contains before.stored) (λ e. test e.0 ≡ true → f e.0 ≡ e.1)
    (λ e has passes. number_after-outside of before stores e.0 e.1 (store_for-outside e.0 region stores (outside e.0 passes) within) (found_point before e points has))
    before.stored (each_itself before.stored))
