-- Valid databases that have the same under every name are the same.
use Rattle.std.proofs.Common.{◌≡◌, ℕ, ℤ, true, List, filter, length, Contains, Option, Some, None, option_map, refl, sym, ap, ◌∙◌, subst}
use Rattle.std.specs.Cmp.{eq_by_cmp_equiv}
use Rattle.std.specs.Cmp.Derive.{both_true}
use Rattle.std.specs.Cmp.Lexicographic.{slice_cmp}
use Rattle.std.specs.List.Sorted.{IsStrictlySortedBy}
use Rattle.std.specs.Map.{keys_of}
use Rattle.std.specs.Ordering.{int_cmp, nat_cmp}
use Rattle.std.specs.Prelude.{slice_get}
use Rattle.std.proofs.lemmas.Bool.{eq-eqb}
use Rattle.std.proofs.lemmas.Cmp.{int_cmp_total, lists_total, nat_cmp_total}
use Rattle.std.proofs.lemmas.List.Elements.{All-contains}
use Rattle.std.proofs.lemmas.Map.Keys.{IsDistinct-from_sorted}
use Rattle.std.proofs.lemmas.Map.Lookups.{exact_bytes, exact_unsigned}
use Rattle.std.proofs.lemmas.Map.Views.{Contains-from_lookup, lookup-from_Contains, tells_apart}
use Rattle.ras_domain.specs.Region.{IsIn, points_of}
use Rattle.ras_domain.proofs.BoxTests.{IsIn-is_in}
use Rattle.ras_domain.proofs.Points.{Contains-IsIn, length-from_IsIn}
use Rattle.ras_domain.proofs.RowOrder.{points_of-ascends}
use Rattle.ras_domain.specs.declared.lock.LockName.{LockName}
use Rattle.ras_domain.specs.declared.lock.LockName.TheVariants.{Collection, Domain, Tile}
use Rattle.ras_grid.specs.Grid.{IsGrid, grid_box, tile_place}
use Rattle.ras_grid.proofs.Tiles.{IsIn-grid_box, length-tile_place}
use Rattle.ras_syntax.specs.declared.types.SetType.{SetType}
use Rattle.spec_expressions.specs.Database.{Array, Collection as CollectionOf, Database, array_of, collection_of}
use Rattle.spec_expressions.specs.SetTypes.{AreTypes, IsSetType}
use Rattle.spec_statements.specs.Agree.{extents_in, lies_at, look_at, with_array}
use Rattle.spec_statements.specs.Validity.{IsArrayOf, IsCollectionOver, IsValidFor}
use Rattle.law_lists.proofs.Each.{each_contained}
use Rattle.law_lists.proofs.Elements.{Contains-map}
use Rattle.law_effects.proofs.Shown.{found_entry}
use Rattle.law_effects.proofs.Validity.{IsEntryOf, collection-arrays, type_fits}
use Rattle.spec_views.specs.Holdings.{holding_at}
use Rattle.law_views.proofs.Ascending.{Contains-filter, Contains-from_filter, same_ascending}
use Rattle.law_views.proofs.Standing.{collection_shown, domain_shown, tile_shown, told}

-- ---- an array

-- a point lies in its tile
lies_there : (es : List ℕ) (p : List ℤ) → IsGrid es → length p ≡ length es → lies_at es (tile_place es p) p ≡ true
lies_there es p grid long =
    both_true
    (eq-eqb (length (tile_place es p)) (length es) (length-tile_place es p long)) ((IsIn-is_in p (grid_box es (tile_place es p))).1 (IsIn-grid_box es p grid long))

module _ (of : SetType) (fits : IsSetType of) where
  abbrev at_place : List ℤ → Array → List (List ℤ × List ℤ)
  at_place place array = filter (λ entry. lies_at of.extents.items place entry.0) array.stored

  -- what is stored at a point is stored in its tile
  stored_within : (a b : Array) → IsArrayOf of a → ((place : List ℤ) → at_place place a ≡ at_place place b) → (entry : List ℤ × List ℤ)
      → Contains a.stored entry → Contains b.stored entry
  stored_within a b is same entry has =
      let es : List ℕ = of.extents.items in
      let p : List ℤ = entry.0 in
      let point : Contains (points_of a.domain) p =
      subst (λ ps. Contains ps p) is.each_point (Contains-map (λ (e : List ℤ × List ℤ). e.0) a.stored entry has) in
      let inside : IsIn p a.domain = (Contains-IsIn a.domain p).0 point in
      let long : length p ≡ length es = length-from_IsIn p a.domain inside ∙ is.axes ∙ sym fits.each_extent in
      Contains-from_filter (λ e. lies_at es (tile_place es p) e.0) b.stored entry
      (subst (λ l. Contains l entry) (same (tile_place es p))
      (Contains-filter (λ e. lies_at es (tile_place es p) e.0) a.stored entry has (lies_there es p fits.some_extent long)))

  points_ascend : (a : Array) → IsArrayOf of a → IsStrictlySortedBy (slice_cmp int_cmp) (keys_of a.stored)
  points_ascend a is = subst (IsStrictlySortedBy (slice_cmp int_cmp)) (sym is.each_point) (points_of-ascends a.domain)

  array_fixed : (a b : Array) → IsArrayOf of a → IsArrayOf of b → a.domain ≡ b.domain → ((place : List ℤ) → at_place place a ≡ at_place place b) → a ≡ b
  array_fixed a b is_a is_b domain same =
      let stored : a.stored ≡ b.stored = same_ascending (slice_cmp int_cmp) (lists_total int_cmp_total) a.stored b.stored (points_ascend a is_a) (points_ascend b is_b)
      (stored_within a b is_a same) (stored_within b a is_b (λ place. sym (same place))) in
      λ i. record { domain = domain i; stored = stored i }

-- ---- a collection

module _ (types : List SetType) (types_fit : AreTypes types) where
  -- two collections have the same array under an identifier
  record IsSameAt (c d : CollectionOf) (id : ℕ) : Type 0 where
    domain : option_map (domain_shown c) (array_of c id) ≡ option_map (domain_shown d) (array_of d id)
    tiles : (place : List ℤ) → option_map (tile_shown types place c) (array_of c id) ≡ option_map (tile_shown types place d) (array_of d id)

  arrays_within : (c d : CollectionOf) → IsCollectionOver types c → IsCollectionOver types d → c.set_type ≡ d.set_type
      → ((id : ℕ) → IsSameAt c d id) → (entry : ℕ × Array) → Contains c.arrays entry → Contains d.arrays entry
  arrays_within c d over_c over_d type same entry has = at (array_of d id) refl
      (subst (λ o. option_map (domain_shown c) o ≡ option_map (domain_shown d) (array_of d id)) found (same id).domain)
      (λ place. subst (λ o. option_map (tile_shown types place c) o ≡ option_map (tile_shown types place d) (array_of d id)) found ((same id).tiles place))
    where
      id : ℕ
      id = entry.0

      of : SetType
      of = over_c.of

      type_d : slice_get types d.set_type ≡ Some of
      type_d = ap (slice_get types) (sym type) ∙ over_c.set_type

      found : array_of c id ≡ Some entry.1
      found = found_entry c.arrays id entry.1 over_c.ordered has

      is_entry : IsEntryOf of c.next entry
      is_entry = each_contained (IsEntryOf of c.next) c.arrays entry (collection-arrays types of c over_c over_c.set_type).each has

      at : (o : Option Array) → array_of d id ≡ o → option_map (domain_shown c) (Some entry.1) ≡ option_map (domain_shown d) o
          → ((place : List ℤ) → option_map (tile_shown types place c) (Some entry.1) ≡ option_map (tile_shown types place d) o) → Contains d.arrays entry
      at None is domain tiles = absurd cc
      at (Some b) is domain tiles =
          let there : Contains d.arrays (id, b) = Contains-from_lookup (tells_apart exact_unsigned) id b d.arrays is in
          let is_b : IsEntryOf of d.next (id, b) = each_contained (IsEntryOf of d.next) d.arrays (id, b) (collection-arrays types of d over_d type_d).each there in
          let same_domain : entry.1.domain ≡ b.domain = cc in
          let same_array : entry.1 ≡ b = array_fixed of (type_fits types c.set_type of types_fit over_c.set_type) entry.1 b is_entry.2 is_b.2 same_domain
          (λ place. subst (λ o. filter (λ e. lies_at (extents_in o) place e.0) entry.1.stored ≡ filter (λ e. lies_at of.extents.items place e.0) b.stored) over_c.set_type
          (subst (λ o. filter (λ e. lies_at (extents_in (slice_get types c.set_type)) place e.0) entry.1.stored ≡ filter (λ e. lies_at (extents_in o) place e.0) b.stored) type_d
          (let e = tiles place in cc))) in
          subst (λ x. Contains d.arrays (id, x)) (sym same_array) there

  collection_fixed : (c d : CollectionOf) → IsCollectionOver types c → IsCollectionOver types d → c.set_type ≡ d.set_type → c.next ≡ d.next
      → ((id : ℕ) → IsSameAt c d id) → c ≡ d
  collection_fixed c d over_c over_d type next same =
      let arrays : c.arrays ≡ d.arrays = same_ascending nat_cmp nat_cmp_total c.arrays d.arrays over_c.ordered over_d.ordered
      (arrays_within c d over_c over_d type same)
      (arrays_within d c over_d over_c (sym type) (λ id. record { domain = sym (same id).domain; tiles = λ place. sym ((same id).tiles place) })) in
      λ i. record { set_type = type i; next = next i; arrays = arrays i }

  -- ---- a database

  collections_within : (one other : Database) → IsValidFor types one → IsValidFor types other
      → ((name : LockName) → look_at types name one ≡ look_at types name other) → (entry : List ℕ × CollectionOf) → Contains one entry → Contains other entry
  collections_within one other valid also same entry has = at (collection_of other name) refl
      (subst (λ o. option_map collection_shown o ≡ option_map collection_shown (collection_of other name)) found (same (Collection name)))
      (λ id. subst (λ o. with_array domain_shown id o ≡ with_array domain_shown id (collection_of other name)) found (same (Domain name id)))
      (λ id place. subst (λ o. with_array (tile_shown types place) id o ≡ with_array (tile_shown types place) id (collection_of other name)) found
      (same (Tile name id (record { items = place }))))
    where
      name : List ℕ
      name = entry.0

      found : collection_of one name ≡ Some entry.1
      found = lookup-from_Contains (eq_by_cmp_equiv (lists_total nat_cmp_total)) name entry.1 one (IsDistinct-from_sorted (slice_cmp nat_cmp) (keys_of one) valid.ordered) has

      at : (o : Option CollectionOf) → collection_of other name ≡ o → option_map collection_shown (Some entry.1) ≡ option_map collection_shown o
          → ((id : ℕ) → with_array domain_shown id (Some entry.1) ≡ with_array domain_shown id o)
          → ((id : ℕ) (place : List ℤ) → with_array (tile_shown types place) id (Some entry.1) ≡ with_array (tile_shown types place) id o) → Contains other entry
      at None is collection domains tiles = absurd cc
      at (Some d) is collection domains tiles =
          let there : Contains other (name, d) = Contains-from_lookup (tells_apart exact_bytes) name d other is in
          let type : entry.1.set_type ≡ d.set_type = cc in
          let next : entry.1.next ≡ d.next = cc in
          let same_collection : entry.1 ≡ d = collection_fixed entry.1 d (All-contains (λ e. IsCollectionOver types e.1) one entry valid.collections has)
          (All-contains (λ e. IsCollectionOver types e.1) other (name, d) also.collections there) type next (λ id. record { domain = domains id; tiles = tiles id }) in
          subst (λ x. Contains other (name, x)) (sym same_collection) there

  databases_shown : (one other : Database) → IsValidFor types one → IsValidFor types other
      → ((name : LockName) → look_at types name one ≡ look_at types name other) → one ≡ other
  databases_shown one other valid also same =
      same_ascending (slice_cmp nat_cmp) (lists_total nat_cmp_total) one other valid.ordered also.ordered (collections_within one other valid also same)
      (collections_within other one also valid (λ name. sym (same name)))

pub databases_fixed : (types : List SetType) (one other : Database) → AreTypes types → IsValidFor types one → IsValidFor types other
    → ((name : LockName) → holding_at types name one ≡ holding_at types name other) → one ≡ other
databases_fixed types one other types_fit valid also held =
    databases_shown types types_fit one other valid also (λ name. told types one other name (λ above. held above))
