-- What locks show of two collections that are changed alike, and of two databases where one collection of each is.
use Rattle.std.proofs.Common.{◌≡◌, ℕ, ℤ, Bool, true, List, map, filter, slice_get, option_map, Option, Some, None, refl, sym, ap, ◌∙◌, subst, ⊎_elim}
use Rattle.std.specs.Map.{keys_of, lookup}
use Rattle.std.specs.Ordering.{int_cmp, is_eq, nat_cmp}
use Rattle.std.specs.Cmp.Lexicographic.{slice_cmp}
use Rattle.std.proofs.lemmas.Bool.{cases_Bool}
use Rattle.std.proofs.lemmas.Cmp.{nat_list_cmp_total}
use Rattle.std.proofs.lemmas.Map.Lookups.{exact_bytes}
use Rattle.std.proofs.lemmas.Map.Views.{tells_apart}
use Rattle.ras_cells.specs.Stored.{default_of}
use Rattle.ras_domain.specs.Region.{points_of}
use Rattle.ras_domain.specs.declared.lock.LockName.{LockName}
use Rattle.ras_domain.specs.declared.lock.LockName.TheVariants.{Collection, Domain, Tile}
use Rattle.ras_syntax.specs.declared.types.SetType.{SetType}
use Rattle.spec_expressions.specs.Database.{Array, Collection as CollectionOf, Database, collection_of}
use Rattle.spec_expressions.specs.Shape.{Box}
use Rattle.spec_statements.specs.Agree.{Agrees, Seen, collection_seen, domain_seen, extents_in, lies_at, look_at, stored_in_tile, tile_seen, with_array}
use Rattle.spec_statements.specs.Effects.{Stores, with_changed, with_changed_if_any, number_after, or_else, store_for, with_collection, written_array}
use Rattle.spec_statements.specs.Locks.{Lock, collection_in}
use Rattle.spec_statements.specs.ReachLaw.{Names}
use Rattle.law_lists.proofs.Each.{each_map, each_any}
use Rattle.law_lists.proofs.Maps.{lookup-insert_entry}
use Rattle.law_effects.proofs.Untouched.{changed_in-other, differ, look_at-same}
use Rattle.law_effects.proofs.Written.{keys-paired}
use Rattle.law_effects.proofs.Shown.{filter-rewritten}
use Rattle.law_locks.proofs.Collections.{AreAlikeCollections, IsAlikeCollection, alike_collections}
use Rattle.law_locks.proofs.EffectsMaps.{shown}
use Rattle.law_locks.proofs.Reading.{stored_kept}

-- ---- a collection

-- arrays that show the same still do where the same is stored in both
abbrev pub IsKept : (Array → Seen) → Type 0
IsKept show =
    (of : SetType) (a b : Array) (grown : Box) (stores : Stores) → show a ≡ show b → show (written_array of a grown stores) ≡ show (written_array of b grown stores)

-- two collections that are changed alike: afterwards they have the same identifiers, and arrays that show the same where
-- they did
pub record IsChangedAlike (c d after_c after_d : CollectionOf) : Type 0 where
  pub types : (after_c.set_type ≡ c.set_type) × (after_d.set_type ≡ d.set_type)
  pub nexts : after_c.next ≡ after_d.next
  pub keys : keys_of after_c.arrays ≡ keys_of after_d.arrays
  pub arrays : (show : Array → Seen) → IsKept show → (id : ℕ) → shown show id c.arrays ≡ shown show id d.arrays → shown show id after_c.arrays ≡ shown show id after_d.arrays

-- what a lock shows of its collection
abbrev pub look_in : List SetType → LockName → Option CollectionOf → Option Seen
look_in types (Collection name) found = option_map (λ collection. collection_seen collection.set_type collection.next (keys_of collection.arrays)) found
look_in types (Domain name id) found = with_array (λ collection array. domain_seen array.domain) id found
look_in types (Tile name id place) found = with_array (λ collection. stored_in_tile types collection place.items) id found

-- a lock shows what it shows of the collection that it names
pub look_at-in : (types : List SetType) (x : LockName) (database : Database) → look_at types x database ≡ look_in types x (collection_of database (collection_in x))
look_at-in types (Collection name) database = refl
look_at-in types (Domain name id) database = refl
look_at-in types (Tile name id place) database = refl

-- what a lock on a tile shows, where the collection has this set type
abbrev pub tile_of : List SetType → ℕ → List ℤ → Array → Seen
tile_of types place_of_type place array = tile_seen place_of_type (filter (λ entry. lies_at (extents_in (slice_get types place_of_type)) place entry.0) array.stored)

-- what a lock on a domain shows is the domain that is written
IsKept-domain : IsKept (λ array. domain_seen array.domain)
IsKept-domain of a b grown stores same = refl

-- entries at the same keys, where those that pass a test have equal values
filter-paired : {K X : Type 0} (test : K → Bool) (f g : K → X) → ((k : K) → test k ≡ true → f k ≡ g k) → (ks : List K)
    → filter (λ (e : K × X). test e.0) (map (λ k. (k, f k)) ks) ≡ filter (λ (e : K × X). test e.0) (map (λ k. (k, g k)) ks)
filter-paired {K = K} {X = X} test f g same ks =
    ap (λ ks. filter (λ (e : K × X). test e.0) (map (λ k. (k, f k)) ks)) (sym (keys-paired g ks))
    ∙ filter-rewritten test f (map (λ k. (k, g k)) ks)
    (each_map (λ k. test k ≡ true → f k ≡ g k) (λ (e : K × X). test e.0 ≡ true → f e.0 ≡ e.1) (λ k. (k, g k)) (λ k here. here) ks (each_any (λ k. test k ≡ true → f k ≡ g k) same ks))

-- what a lock on a tile shows is, point by point, what is written, or else what stood there, or else the default
IsKept-tile : (types : List SetType) (k : ℕ) (place : List ℤ) → IsKept (tile_of types k place)
IsKept-tile types k place of a b grown stores same =
    let test : List ℤ → Bool = lies_at (extents_in (slice_get types k)) place in
    let entries : filter (λ e. test e.0) a.stored ≡ filter (λ e. test e.0) b.stored = cc in
    let default : List ℤ = (default_of of.cell of.nulls).items in
    ap (tile_seen k) (filter-paired test (number_after of a stores) (number_after of b stores)
    (λ p passes. ap (λ o. or_else (store_for p stores) (or_else o default)) (sym (stored_kept a p test passes)
    ∙ ap (lookup (λ q. is_eq (slice_cmp int_cmp p q))) entries ∙ stored_kept b p test passes)) (points_of grown))

-- a lock shows the same of both afterwards where it did before
module _ (types : List SetType) (c d after_c after_d : CollectionOf) (type : c.set_type ≡ d.set_type) (alike : IsChangedAlike c d after_c after_d) where
  abbrev SeenAlike : LockName → CollectionOf → CollectionOf → Type 0
  SeenAlike x a b = look_in types x (Some a) ≡ look_in types x (Some b)

  collection_alike : (name : List ℕ) → SeenAlike (Collection name) after_c after_d
  collection_alike name =
      let set_types : after_c.set_type ≡ after_d.set_type = alike.types.0 ∙ type ∙ sym alike.types.1 in
      λ i. Some (collection_seen (set_types i) (alike.nexts i) (alike.keys i))

  domain_alike : (name : List ℕ) (id : ℕ) → SeenAlike (Domain name id) c d → SeenAlike (Domain name id) after_c after_d
  domain_alike name id same = alike.arrays (λ array. domain_seen array.domain) IsKept-domain id same

  tile_alike : (name : List ℕ) (id : ℕ) (place : List ℤ) → shown (tile_of types c.set_type place) id c.arrays ≡ shown (tile_of types d.set_type place) id d.arrays
      → shown (tile_of types after_c.set_type place) id after_c.arrays ≡ shown (tile_of types after_d.set_type place) id after_d.arrays
  tile_alike name id place same =
      let before : shown (tile_of types c.set_type place) id c.arrays ≡ shown (tile_of types c.set_type place) id d.arrays = same
      ∙ sym (ap (λ k. shown (tile_of types k place) id d.arrays) type) in
      ap (λ k. shown (tile_of types k place) id after_c.arrays) alike.types.0
      ∙ alike.arrays (tile_of types c.set_type place) (IsKept-tile types c.set_type place) id before
      ∙ ap (λ k. shown (tile_of types k place) id after_d.arrays) (type ∙ sym alike.types.1)

  pub seen_alike : (x : LockName) → SeenAlike x c d → SeenAlike x after_c after_d
  seen_alike (Collection name) same = collection_alike name
  seen_alike (Domain name id) same = domain_alike name id same
  seen_alike (Tile name id place) same = tile_alike name id place.items same

-- ---- a database

-- the collection that is put under a name is found there
pub collection_found : (name : List ℕ) (collection : CollectionOf) (database : Database) → collection_of (with_collection name collection database) name ≡ Some collection
collection_found name collection database =
    lookup-insert_entry (slice_cmp nat_cmp) exact_bytes name collection nat_list_cmp_total database

module _ (types : List SetType) (list : List Lock) (one other : Database) (agree : Agrees types list one other) where
  -- where nothing but one collection is changed, and each of its locks shows the same in both afterwards
  pub others-agree : (name : List ℕ) (after_one after_other : Database) → ((m : List ℕ) → (m ≡ name → ⊥) → collection_of after_one m ≡ collection_of one m)
      → ((m : List ℕ) → (m ≡ name → ⊥) → collection_of after_other m ≡ collection_of other m)
      → ((x : LockName) → Names list x → collection_in x ≡ name → look_in types x (collection_of after_one name) ≡ look_in types x (collection_of after_other name))
      → Agrees types list after_one after_other
  others-agree name after_one after_other first second own x mode has = ⊎_elim
      (λ at. let e : collection_in x ≡ name = tells_apart exact_bytes (collection_in x) name at in
      look_at-in types x after_one
      ∙ subst (λ m. look_in types x (collection_of after_one m) ≡ look_in types x (collection_of after_other m)) (sym e) (own x (mode, has) e)
      ∙ sym (look_at-in types x after_other))
      (λ apart. let unlike = differ (collection_in x) name apart in
      look_at-same types x after_one one (first (collection_in x) unlike) ∙ agree x mode has ∙ sym (look_at-same types x after_other other (second (collection_in x) unlike)))
      (cases_Bool (is_eq (slice_cmp nat_cmp (collection_in x) name)))

  -- a lock on a collection shows the same of what is found of it in both
  found_same : (name : List ℕ) (o p : Option CollectionOf) → collection_of one name ≡ o → collection_of other name ≡ p → (x : LockName) → Names list x
      → collection_in x ≡ name → look_in types x o ≡ look_in types x p
  found_same name o p first second x (mode, has) e =
      ap (look_in types x) (sym first ∙ ap (collection_of one) (sym e)) ∙ sym (look_at-in types x one) ∙ agree x mode has ∙ look_at-in types x other
      ∙ ap (look_in types x) (ap (collection_of other) e ∙ second)

  -- where a collection that both show is changed alike
  pub changed-agree : (name : List ℕ) (f g : CollectionOf → CollectionOf) → Names list (Collection name)
      → ((c d : CollectionOf) → collection_of one name ≡ Some c → collection_of other name ≡ Some d → IsAlikeCollection c d → IsChangedAlike c d (f c) (g d))
      → Agrees types list (with_changed name f one) (with_changed name g other)
  changed-agree name f g named alike =
      at (collection_of one name) (collection_of other name) (alike_collections types list one other name agree named) refl refl
    where
      at : (o p : Option CollectionOf) → AreAlikeCollections o p → collection_of one name ≡ o → collection_of other name ≡ p
          → Agrees types list (with_changed_if_any name f o one) (with_changed_if_any name g p other)
      at None None both first second = agree
      at None (Some d) both first second = absurd both
      at (Some c) None both first second = absurd both
      at (Some c) (Some d) both first second =
          others-agree name (with_collection name (f c) one) (with_collection name (g d) other) (changed_in-other name f (Some c) one) (changed_in-other name g (Some d) other)
          (λ x named e.
          ap (look_in types x) (collection_found name (f c) one)
          ∙ seen_alike types c d (f c) (g d) both.set_type (alike c d first second both) x (found_same name (Some c) (Some d) first second x named e)
          ∙ sym (ap (look_in types x) (collection_found name (g d) other)))
