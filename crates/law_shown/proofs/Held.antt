-- Where holdings stand for a database on a list with its parents, they stand for the database that they show.
use Rattle.std.proofs.Common.{◌≡◌, ℕ, ℤ, List, Option, Some, None, option_map, refl, sym, ap, ◌∙◌, subst}
use Rattle.std.specs.Prelude.{IfSome}
use Rattle.std.specs.Map.{keys_of}
use Rattle.std.specs.Ordering.{is_eq, nat_cmp}
use Rattle.std.proofs.lemmas.List.Elements.{recursion_from_All}
use Rattle.arrayvec.specs.ArrayVec.{ArrayVec}
use Rattle.ras_domain.specs.declared.lock.LockName.TheVariants.{Collection, Domain, Tile}
use Rattle.ras_syntax.specs.declared.types.SetType.{SetType}
use Rattle.std.specs.Prelude.{slice_get}
use Rattle.spec_expressions.specs.Database.{Array, Collection as CollectionOf, Database, array_of, collection_of}
use Rattle.spec_expressions.specs.SetTypes.{AreTypes, IsSetType}
use Rattle.spec_shown.specs.Shown.{array_shown, domain_shown}
use Rattle.spec_statements.specs.Agree.{Seen, collection_seen, domain_seen, stored_in_tile, tile_seen, with_array}
use Rattle.spec_statements.specs.Locks.{Lock}
use Rattle.spec_statements.specs.ReachLaw.{HasParents}
use Rattle.spec_statements.specs.Validity.{IsArrayOf, IsCollectionOver, IsValidFor}
use Rattle.spec_views.specs.Holdings.{Holdings, StandsFor, domain_held, holding_at, holding_in, holding_of}
use Rattle.law_effects.proofs.Validity.{found_collection, type_fits}
use Rattle.law_effects.proofs.Written.{found_each}
use Rattle.law_shown.proofs.Arrays.{stored_in, tile-shown}
use Rattle.law_shown.proofs.Databases.{IsFound, array_over, array_there, collection_over, collection_there, database_over, domain_there, found_there, keys-rewritten, tile_there}

module _ (types : List SetType) (holdings : Holdings) (one : Database) (valid : IsValidFor types one) where
  abbrev shown : Database
  shown = database_over types holdings one

  -- ---- arrays that are there

  record HasArray (name : List ℕ) (id : ℕ) : Type 0 where
    of : SetType
    collection : CollectionOf
    array : Array
    found : IsFound types one name id of collection array
    is : IsArrayOf of array

  -- neither database has the array, or the first one does
  data IsThere (name : List ℕ) (id : ℕ) : Type 0 where
    absent : ((show : CollectionOf → Array → Seen) → with_array show id (collection_of one name) ≡ None)
        → ((show : CollectionOf → Array → Seen) → with_array show id (collection_of shown name) ≡ None) → IsThere name id
    there : HasArray name id → IsThere name id

  is_there : (name : List ℕ) (id : ℕ) → IsThere name id
  is_there name id = at_collection (collection_of one name) refl (found_collection types one name valid)
    where
      at_array : (collection : CollectionOf) → collection_of one name ≡ Some collection → IsCollectionOver types collection
          → (found : Option Array) → array_of collection id ≡ found → IsThere name id
      at_array collection is over None none =
          let f : Array → Array = array_over holdings name (slice_get types collection.set_type) id in
          absent
          (λ show. ap (with_array show id) is ∙ ap (option_map (show collection)) none)
          (λ show. ap (with_array show id) (collection_there types holdings one name ∙ ap (option_map (collection_over types holdings name)) is)
          ∙ ap (option_map (show (collection_over types holdings name collection))) (array_there types holdings one name collection id ∙ ap (option_map f) none))
      at_array collection is over (Some array) some =
          there (record {
            of = over.of;
            collection = collection;
            array = array;
            found = record { collection_found = is; array_found = some; type = over.set_type };
            is = subst (λ o. IfSome o (IsArrayOf over.of)) some
                (found_each (IsArrayOf over.of) (λ other. is_eq (nat_cmp id other)) collection.arrays (recursion_from_All _ collection.arrays over.arrays));
          })

      at_collection : (found : Option CollectionOf) → collection_of one name ≡ found → IfSome (collection_of one name) (IsCollectionOver types) → IsThere name id
      at_collection None none over = absent
          (λ show. ap (with_array show id) none)
          (λ show. ap (with_array show id) (collection_there types holdings one name ∙ ap (option_map (collection_over types holdings name)) none))
      at_collection (Some collection) some over =
          at_array collection some (subst (λ o. IfSome o (IsCollectionOver types)) some over) (array_of collection id) refl

  -- ---- each name

  abbrev collection_shows : CollectionOf → Seen
  collection_shows collection = collection_seen collection.set_type collection.next (keys_of collection.arrays)

  -- a collection keeps its set type, its next identifier and its identifiers
  collection_kept : (name : List ℕ) → holding_at types (Collection name) one ≡ holding_at types (Collection name) shown
  collection_kept name = sym (ap (λ o. holding_in (option_map collection_shows o)) (collection_there types holdings one name) ∙ at (collection_of one name))
    where
      at : (found : Option CollectionOf) → holding_in (option_map collection_shows (option_map (collection_over types holdings name) found)) ≡ holding_in (option_map collection_shows found)
      at None = refl
      at (Some collection) =
          ap (λ ks. holding_in (Some (collection_seen collection.set_type collection.next ks)))
          (keys-rewritten (array_over holdings name (slice_get types collection.set_type)) collection.arrays)

  domain_kept : (name : List ℕ) (id : ℕ) → holdings (Domain name id) ≡ holding_at types (Domain name id) one
      → holding_at types (Domain name id) one ≡ holding_at types (Domain name id) shown
  domain_kept name id held = at (is_there name id)
    where
      at : IsThere name id → holding_at types (Domain name id) one ≡ holding_at types (Domain name id) shown
      at (absent before after) = ap holding_in (before (λ c a. domain_seen a.domain)) ∙ sym (ap holding_in (after (λ c a. domain_seen a.domain)))
      at (there has) =
          let of : SetType = has.of in
          let collection : CollectionOf = has.collection in
          let array : Array = has.array in
          let before : holding_at types (Domain name id) one ≡ Some (domain_held array.domain) = domain_there types one name id of collection array has.found in
          before
          ∙ ap (λ d. Some (domain_held d)) (sym (ap (domain_shown of) (held ∙ before)))
          ∙ sym (domain_there types shown name id of (collection_over types holdings name collection) (array_shown of holdings name id)
          (found_there types holdings one name id of collection array has.found))

  tile_kept : AreTypes types → (name : List ℕ) (id : ℕ) (place : ArrayVec ℤ) → holdings (Domain name id) ≡ holding_at types (Domain name id) one
      → holdings (Tile name id place) ≡ holding_at types (Tile name id place) one
      → holding_at types (Tile name id place) one ≡ holding_at types (Tile name id place) shown
  tile_kept types_fit name id place domain held = at (is_there name id)
    where
      at : IsThere name id → holding_at types (Tile name id place) one ≡ holding_at types (Tile name id place) shown
      at (absent before after) =
          ap holding_in (before (λ c. stored_in_tile types c place.items)) ∙ sym (ap holding_in (after (λ c. stored_in_tile types c place.items)))
      at (there has) =
          let of : SetType = has.of in
          let collection : CollectionOf = has.collection in
          let array : Array = has.array in
          let fits : IsSetType of = type_fits types collection.set_type of types_fit has.found.type in
          let before : holding_at types (Tile name id place) one ≡ holding_of (tile_seen collection.set_type (stored_in of place.items array)) =
          tile_there types one name id of collection array has.found place in
          before
          ∙ ap (λ es. holding_of (tile_seen collection.set_type es))
          (sym (tile-shown of holdings name id collection.set_type place array fits has.is (domain ∙ domain_there types one name id of collection array has.found) (held ∙ before)))
          ∙ sym (tile_there types shown name id of (collection_over types holdings name collection) (array_shown of holdings name id)
          (found_there types holdings one name id of collection array has.found) place)

  -- so the holdings stand for what they show on each such list
  pub shown_stands : AreTypes types → (list : List Lock) → HasParents list → StandsFor types holdings list one → StandsFor types holdings list shown
  shown_stands types_fit list parents stands (Collection name) named = stands (Collection name) named ∙ collection_kept name
  shown_stands types_fit list parents stands (Domain name id) named =
      let held = stands (Domain name id) named in
      held ∙ domain_kept name id held
  shown_stands types_fit list parents stands (Tile name id place) named =
      let held = stands (Tile name id place) named in
      held ∙ tile_kept types_fit name id place (stands (Domain name id) (parents.tiles name id place named)) held
