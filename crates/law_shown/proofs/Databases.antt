-- The database that holdings show: a valid one with each array in its place as the holdings show it.
use Rattle.std.proofs.Common.{◌≡◌, ◌⊎◌, inl, inr, ℕ, ◌≤◌, ℤ, Bool, true, false, cond, List, [], ◌∷◌, filter, map, Contains, slice_get, Option, Some, None, option_map, refl, sym, ap, ◌∙◌, subst}
use Rattle.std.specs.Prelude.{IfSome}
use Rattle.std.specs.Cmp.{eq_by_cmp_equiv}
use Rattle.std.specs.Cmp.Lexicographic.{slice_cmp}
use Rattle.std.specs.List.Sorted.{IsStrictlySortedBy}
use Rattle.std.specs.Map.{keys_of, lookup}
use Rattle.std.specs.Ordering.{is_eq, nat_cmp}
use Rattle.std.proofs.lemmas.Cmp.{lists_total, nat_cmp_total}
use Rattle.std.proofs.lemmas.List.Elements.{All-from_recursion, recursion_from_All}
use Rattle.std.proofs.lemmas.Map.Keys.{IsDistinct-from_sorted}
use Rattle.std.proofs.lemmas.Map.Lookups.{exact_bytes, exact_unsigned}
use Rattle.std.proofs.lemmas.Map.Views.{lookup-from_Contains, tells_apart}
use Rattle.arrayvec.specs.ArrayVec.{ArrayVec}
use Rattle.ras_domain.specs.declared.lock.LockName.TheVariants.{Domain, Tile}
use Rattle.ras_syntax.specs.declared.limits.TheConstants.{MAX_IDENTIFIER}
use Rattle.ras_syntax.specs.declared.statement.Statement.{Statement}
use Rattle.ras_syntax.specs.declared.types.SetType.{SetType}
use Rattle.spec_expressions.specs.Database.{Array, Collection as CollectionOf, Database, array_of, collection_of}
use Rattle.spec_expressions.specs.SetTypes.{AreTypes}
use Rattle.spec_expressions.specs.Tree.{NameOf}
use Rattle.spec_shown.specs.Shown.{IsPartOf, array_shown}
use Rattle.spec_statements.specs.Agree.{domain_seen, extents_in, lies_at, stored_in_tile, tile_seen, with_array}
use Rattle.spec_statements.specs.CheckStatement.{checked_statement}
use Rattle.spec_statements.specs.Machine.{checked_over}
use Rattle.spec_statements.specs.ReachLaw.{IsSetting}
use Rattle.spec_statements.specs.Validity.{IsArrayOf, IsCollectionOver, IsValidFor}
use Rattle.spec_views.specs.Holdings.{Holdings, domain_held, holding_at, holding_in, holding_of}
use Rattle.law_lists.proofs.Each.{each_both, each_itself, each_map}
use Rattle.law_effects.proofs.Shown.{found_entry}
use Rattle.law_effects.proofs.Validity.{AreArraysOf, IsEntryOf, collection-arrays, collection-from, type_fits}
use Rattle.law_shown.proofs.Arrays.{IsPartOfArray, shown-valid, stored_in}

-- ---- lists of entries, rewritten in place

module _ {K X Y : Type 0} (f : K → X → Y) where
  pub keys-rewritten : (es : List (K × X)) → keys_of (map {B = K × Y} (λ e. (e.0, f e.0 e.1)) es) ≡ keys_of es
  keys-rewritten [] = refl
  keys-rewritten (e ∷ es) = ap (λ ks. e.0 ∷ ks) (keys-rewritten es)

  -- a look-up that finds one key alone
  pub lookup-rewritten : (test : K → Bool) (key : K) → ((k : K) → test k ≡ true → key ≡ k) → (es : List (K × X))
      → lookup test (map {B = K × Y} (λ e. (e.0, f e.0 e.1)) es) ≡ option_map (f key) (lookup test es)
  lookup-rewritten test key exact [] = refl
  lookup-rewritten test key exact (e ∷ es) = at (test e.0) (exact e.0) (lookup-rewritten test key exact es)
    where
      at : (b : Bool) → (b ≡ true → key ≡ e.0) → lookup test (map {B = K × Y} (λ e. (e.0, f e.0 e.1)) es) ≡ option_map (f key) (lookup test es)
          → cond b (Some (f e.0 e.1)) (lookup test (map {B = K × Y} (λ e. (e.0, f e.0 e.1)) es)) ≡ option_map (f key) (cond b (Some e.1) (lookup test es))
      at true same later = ap (λ k. Some (f k e.1)) (sym (same refl))
      at false same later = later

-- ---- the database

-- an array as it is shown, where the types have the set type of its collection
abbrev pub array_over : Holdings → List ℕ → Option SetType → ℕ → Array → Array
array_over holdings name None id array = array
array_over holdings name (Some of) id array = array_shown of holdings name id

abbrev pub collection_over : List SetType → Holdings → List ℕ → CollectionOf → CollectionOf
collection_over types holdings name collection = record {
  set_type = collection.set_type;
  next = collection.next;
  arrays = map (λ entry. (entry.0, array_over holdings name (slice_get types collection.set_type) entry.0 entry.1)) collection.arrays;
}

abbrev pub database_over : List SetType → Holdings → Database → Database
database_over types holdings database = map (λ entry. (entry.0, collection_over types holdings entry.0 entry.1)) database

-- what is found of an array in a database
pub record IsFound (types : List SetType) (database : Database) (name : List ℕ) (id : ℕ) (of : SetType) (collection : CollectionOf) (array : Array) : Type 0 where
  pub collection_found : collection_of database name ≡ Some collection
  pub array_found : array_of collection id ≡ Some array
  pub type : slice_get types collection.set_type ≡ Some of

module _ (types : List SetType) (database : Database) (name : List ℕ) (id : ℕ) (of : SetType) (collection : CollectionOf) (array : Array)
    (found : IsFound types database name id of collection array) where
  pub domain_there : holding_at types (Domain name id) database ≡ Some (domain_held array.domain)
  domain_there =
      ap (λ o. holding_in (with_array (λ c a. domain_seen a.domain) id o)) found.collection_found
      ∙ ap (λ o. holding_in (option_map (λ a. domain_seen a.domain) o)) found.array_found

  pub tile_there : (place : ArrayVec ℤ) → holding_at types (Tile name id place) database ≡ holding_of (tile_seen collection.set_type (stored_in of place.items array))
  tile_there place =
      ap (λ o. holding_in (with_array (λ c. stored_in_tile types c place.items) id o)) found.collection_found
      ∙ ap (λ o. holding_in (option_map (stored_in_tile types collection place.items) o)) found.array_found
      ∙ ap (λ o. holding_of (tile_seen collection.set_type (filter (λ entry. lies_at (extents_in o) place.items entry.0) array.stored))) found.type

module _ (types : List SetType) (holdings : Holdings) (one : Database) where
  abbrev shown : Database
  shown = database_over types holdings one

  -- ---- look-ups

  pub collection_there : (name : List ℕ) → collection_of shown name ≡ option_map (collection_over types holdings name) (collection_of one name)
  collection_there name =
      lookup-rewritten (collection_over types holdings) (λ other. is_eq (slice_cmp nat_cmp name other)) name (tells_apart exact_bytes name) one

  pub array_there : (name : List ℕ) (collection : CollectionOf) (id : ℕ) → array_of (collection_over types holdings name collection) id
      ≡ option_map (array_over holdings name (slice_get types collection.set_type) id) (array_of collection id)
  array_there name collection id =
      lookup-rewritten (array_over holdings name (slice_get types collection.set_type)) (λ other. is_eq (nat_cmp id other)) id (tells_apart exact_unsigned id) collection.arrays

  pub found_there : (name : List ℕ) (id : ℕ) (of : SetType) (collection : CollectionOf) (array : Array) → IsFound types one name id of collection array
      → IsFound types shown name id of (collection_over types holdings name collection) (array_shown of holdings name id)
  found_there name id of collection array found = record {
    collection_found = collection_there name ∙ ap (option_map (collection_over types holdings name)) found.collection_found;
    array_found = array_there name collection id ∙ ap (option_map (array_over holdings name (slice_get types collection.set_type) id)) found.array_found
        ∙ ap (λ t. Some (array_over holdings name t id array)) found.type;
    type = found.type;
  }

  -- ---- the check

  -- the same collections with the same set types
  catalog_same : (database : Database) → map {B = NameOf × ℕ} (λ entry. (entry.0, entry.1.set_type)) (database_over types holdings database)
      ≡ map {B = NameOf × ℕ} (λ entry. (entry.0, entry.1.set_type)) database
  catalog_same [] = refl
  catalog_same (entry ∷ database) = ap (λ es. (entry.0, entry.1.set_type) ∷ es) (catalog_same database)

  pub check_same : (statement : Statement) → checked_over types statement shown ≡ checked_over types statement one
  check_same statement = ap (λ collections. checked_statement (record { types = types; collections = collections }) statement) (catalog_same one)

  -- ---- validity

  module _ (types_fit : AreTypes types) (valid : IsValidFor types one) (part : IsPartOf types holdings one) where
    found_in : (name : List ℕ) (collection : CollectionOf) → Contains one (name, collection) → collection_of one name ≡ Some collection
    found_in name collection has =
        lookup-from_Contains (eq_by_cmp_equiv (lists_total nat_cmp_total)) name collection one (IsDistinct-from_sorted (slice_cmp nat_cmp) (keys_of one) valid.ordered) has

    part_of_array : (name : List ℕ) (id : ℕ) (of : SetType) (collection : CollectionOf) (array : Array) → IsFound types one name id of collection array
        → IsPartOfArray of holdings name id collection.set_type array
    part_of_array name id of collection array found = record {
      domain = either (part (Domain name id)) (domain_there types one name id of collection array found);
      tiles = λ place. either (part (Tile name id place)) (tile_there types one name id of collection array found place);
    }
      where
        either : {X : Type 0} {a b c d : X} → ((a ≡ b) ⊎ (a ≡ c)) → c ≡ d → (a ≡ b) ⊎ (a ≡ d)
        either (inl none) same = inl none
        either (inr is) same = inr (is ∙ same)

    pub array_valid : (name : List ℕ) (id : ℕ) (of : SetType) (collection : CollectionOf) (array : Array) → IsFound types one name id of collection array → IsArrayOf of array
        → IsArrayOf of (array_shown of holdings name id)
    array_valid name id of collection array found is =
        shown-valid of holdings name id collection.set_type array (type_fits types collection.set_type of types_fit found.type) is
        (part_of_array name id of collection array found)

    collection_valid : (name : List ℕ) (collection : CollectionOf) → Contains one (name, collection) → IsCollectionOver types collection
        → IsCollectionOver types (collection_over types holdings name collection)
    collection_valid name collection has over =
        let of : SetType = over.of in
        let arrays : List (ℕ × Array) = collection.arrays in
        let given : AreArraysOf of collection.next arrays = collection-arrays types of collection over over.set_type in
        let f : ℕ → Array → Array = array_over holdings name (slice_get types collection.set_type) in
        collection-from types of (collection_over types holdings name collection) over.set_type over.some_next (record {
          ordered = subst (IsStrictlySortedBy nat_cmp) (sym (keys-rewritten f arrays)) given.ordered;
          each = each_map (λ entry. IsEntryOf of collection.next entry × Contains arrays entry) (IsEntryOf of collection.next) (λ entry. (entry.0, f entry.0 entry.1))
              (λ entry both. (
                both.0.0,
                both.0.1,
                entry_valid entry both.0.2 (record {
                  collection_found = found_in name collection has;
                  array_found = found_entry arrays entry.0 entry.1 given.ordered both.1;
                  type = over.set_type;
                }),
              )) arrays
              (each_both (IsEntryOf of collection.next) (Contains arrays) (λ entry. IsEntryOf of collection.next entry × Contains arrays entry)
              (λ entry is here. (is, here)) arrays given.each (each_itself arrays));
        })
      where
        entry_valid : (entry : ℕ × Array) → IsArrayOf over.of entry.1 → IsFound types one name entry.0 over.of collection entry.1
            → IsArrayOf over.of (array_over holdings name (slice_get types collection.set_type) entry.0 entry.1)
        entry_valid entry is found =
            subst (λ t. IsArrayOf over.of (array_over holdings name t entry.0 entry.1)) (sym over.set_type)
            (array_valid name entry.0 over.of collection entry.1 found is)

    pub shown_valid : IsValidFor types shown
    shown_valid =
        let P : List ℕ × CollectionOf → Type 0 = λ entry. IsCollectionOver types entry.1 in
        record {
          ordered = subst (IsStrictlySortedBy (slice_cmp nat_cmp)) (sym (keys-rewritten (collection_over types holdings) one)) valid.ordered;
          collections = All-from_recursion P shown
              (each_map (λ entry. P entry × Contains one entry) P (λ entry. (entry.0, collection_over types holdings entry.0 entry.1))
              (λ entry both. collection_valid entry.0 entry.1 both.1 both.0) one
              (each_both P (Contains one) (λ entry. P entry × Contains one entry) (λ entry is here. (is, here)) one
              (recursion_from_All P one valid.collections) (each_itself one)));
        }

  -- ---- the setting

  small_there : (name : List ℕ) (found : Option CollectionOf) → IfSome found (λ collection. collection.next ≤ MAX_IDENTIFIER)
      → IfSome (option_map (collection_over types holdings name) found) (λ collection. collection.next ≤ MAX_IDENTIFIER)
  small_there name None small = tt
  small_there name (Some collection) small = small

  pub shown_setting : (statement : Statement) → IsSetting types statement one → IsPartOf types holdings one → IsSetting types statement shown
  shown_setting statement setting part = record {
    types_fit = setting.types_fit;
    numbers_fit = setting.numbers_fit;
    valid = shown_valid setting.types_fit setting.valid part;
    small_identifiers = λ name named. subst (λ o. IfSome o (λ collection. collection.next ≤ MAX_IDENTIFIER)) (sym (collection_there name))
        (small_there name (collection_of one name) (setting.small_identifiers name named));
  }
