-- An update leaves what it has no exclusive lock on.
use Rattle.std.proofs.Common.{◌≡◌, ◌==◌, ◌<◌, ◌≤◌, ℕ, ℤ, Bool, true, false, if◌then◌else◌, List, [], ◌∷◌, ◌++◌, length, map, flat_map, slice_get, option_map, Contains, Option, Some, Ok, ⊎_elim, refl, sym, ap, ◌∙◌, subst}
use Rattle.std.specs.List.{AllByRecursion}
use Rattle.std.specs.Map.{keys_of}
use Rattle.std.specs.Ordering.{is_eq, nat_cmp}
use Rattle.std.specs.Cmp.Lexicographic.{slice_cmp}
use Rattle.std.proofs.lemmas.Bool.{and_parts, cases_Bool, eqb-true}
use Rattle.std.proofs.lemmas.Cmp.{nat_list_cmp_total}
use Rattle.std.proofs.lemmas.List.Elements.{All-from_recursion, Contains-append_left, Contains-append_right}
use Rattle.std.proofs.lemmas.Map.Lookups.{exact_bytes}
use Rattle.std.proofs.lemmas.Map.Views.{tells_apart}
use Rattle.arrayvec.specs.ArrayVec.{ArrayVec}
use Rattle.ras_domain.specs.declared.lock.LockName.{LockName}
use Rattle.ras_domain.specs.declared.lock.LockName.TheVariants.{Collection, Domain, Tile}
use Rattle.ras_domain.specs.declared.lock.Mode.TheVariants.{Exclusive}
use Rattle.ras_domain.specs.Region.{IsIn, IsOrdered, is_in}
use Rattle.ras_grid.specs.Grid.{grid_box, places_meeting}
use Rattle.ras_syntax.specs.declared.span.Span.{Span}
use Rattle.ras_syntax.specs.declared.types.SetType.{SetType}
use Rattle.ras_syntax.specs.declared.typed.CheckedSource.{CheckedSource}
use Rattle.spec_expressions.specs.Database.{Array, Collection as CollectionOf, Database, Member, collection_of}
use Rattle.spec_expressions.specs.SetTypes.{IsSetType}
use Rattle.spec_expressions.specs.Shape.{Box}
use Rattle.ras_domain.specs.Boxes.{is_same_box}
use Rattle.spec_expressions.specs.Tree.{Axes, Condition, Tree}
use Rattle.spec_statements.specs.Agree.{Agrees, Seen, collection_seen, domain_seen, extents_in, lies_at, look_at, stored_in_tile, tile_seen, with_array}
use Rattle.spec_statements.specs.Plans.{Plan, Writing}
use Rattle.spec_statements.specs.Effects.{Stores, with_changed, with_changed_if_any, grown_in, grown_of, stores_of_plans, update_store, with_arrays, with_updated}
use Rattle.spec_statements.specs.Phases.{changed_tiles, extents_of, grown_locks, phase_4_list, plan_locks, read_tiles, tile_lock, until_bodies, write_locks}
use Rattle.spec_statements.specs.Locks.{Lock, collection_in}
use Rattle.spec_statements.specs.ReachLaw.{HasParents, Names}
use Rattle.spec_statements.specs.Statement.{Request, StatementTree, update}
use Rattle.spec_statements.specs.Validity.{IsArrayOf}
use Rattle.ras_domain.proofs.BoxTests.{IsIn-is_in, LiesIn-lies_in, length-LiesIn, same-is_same_box}
use Rattle.law_lists.proofs.Each.{each_weaker, each_itself, each_both}
use Rattle.law_effects.proofs.Checked.{HasStaticAxes}
use Rattle.law_lists.proofs.Elements.{Contains-flat_map, Contains-here, Contains-map}
use Rattle.law_effects.proofs.LockNames.{exclusive_is_granted}
use Rattle.law_lists.proofs.Maps.{lookup-insert_entry}
use Rattle.law_effects.proofs.Plans.{IsUpdatePlan}
use Rattle.law_effects.proofs.Shown.{IsRewritten, IsShown, met_place, tile-kept, updated-keys, updated-shown}
use Rattle.law_effects.proofs.Stores.{plan_stores-each, stores_of_plans-each}
use Rattle.law_effects.proofs.Valid.{HasUpdatePlan, update-planned}
use Rattle.law_effects.proofs.Validity.{IsCollectionIn, collection-arrays}
use Rattle.law_effects.proofs.Untouched.{changed_in-other, differ, look_at-same}

-- what was done in a row of an update
pub record IsDone (of : SetType) (plans : List Plan) (arrays : List (ℕ × Array)) (one : Plan × Stores) : Type 0 where
  member : Member
  of_is : member.of ≡ of
  stood : Contains arrays (member.oid, member.array)
  array : IsArrayOf of member.array
  planned : Contains plans one.0
  update : IsUpdatePlan of member one.0
  within : AllByRecursion (λ entry. IsIn entry.0 update.writing.region) one.1

-- where the domain isn't locked exclusively it stays
domain-kept : (collection : List ℕ) (member : Member) (writing : Writing)
    → (Contains (grown_locks collection member writing) (Domain collection member.oid, Exclusive) → ⊥) → writing.grown ≡ member.array.domain
domain-kept collection member writing free = at (is_same_box member.array.domain writing.grown) refl free
  where
    lock : Lock
    lock = (Domain collection member.oid, Exclusive)

    rest : List Lock
    rest = map (tile_lock collection member.oid Exclusive) (changed_tiles (extents_of member) member.array.domain writing.grown)

    at : (b : Bool) → is_same_box member.array.domain writing.grown ≡ b → (Contains (if b then [] else lock ∷ rest) lock → ⊥) → writing.grown ≡ member.array.domain
    at true same free = sym (same-is_same_box member.array.domain writing.grown same)
    at false same free = absurd (free (Contains-here lock rest))

module _ (types : List SetType) (source : CheckedSource) (axes : Option Axes) (target : Span) (body : Tree) (condition : Condition) (size : ℕ) (database : Database)
    (plans : List Plan) (made : List (Plan × Stores)) (collection : CollectionOf)
    (is : IsCollectionIn types database source.collection source.of collection) (type : IsSetType source.of) where
  abbrev pub request : Request
  request = update source axes target body condition

  abbrev pub tree : StatementTree
  tree = record { request = request; length = size }

  -- what was done in each row
  abbrev pub Done : Plan × Stores → Type 0
  Done = IsDone source.of plans collection.arrays

  pub each_done : HasStaticAxes axes → until_bodies tree database ≡ Ok plans → stores_of_plans (update_store source.of) body plans ≡ Ok made → AllByRecursion Done made
  each_done static are_plans are_made =
      let P : ℕ × Array → Type 0 = λ entry. Contains collection.arrays entry × IsArrayOf source.of entry.1 in
      let Q : Member → Type 0 = λ member. (member.of ≡ source.of) × P (member.oid, member.array) in
      let arrays = collection-arrays types source.of collection is.over is.type in
      let entries : AllByRecursion P collection.arrays =
      each_both (Contains collection.arrays) (λ entry. IsArrayOf source.of entry.1) P (λ entry has is. (has, is)) collection.arrays (each_itself collection.arrays)
      (each_weaker (λ entry. (1 ≤ entry.0) × (entry.0 < collection.next) × IsArrayOf source.of entry.1) (λ entry. IsArrayOf source.of entry.1) (λ entry e. e.2)
      collection.arrays arrays.each) in
      let planned : AllByRecursion (HasUpdatePlan source.of Q) plans =
      update-planned source axes target body condition size database plans collection P static (λ entry p. p.1) is.found entries are_plans in
      stores_of_plans-each (update_store source.of) body (λ plan. HasUpdatePlan source.of Q plan × Contains plans plan) Done
      (λ plan stores h stored. record {
        member = h.0.0;
        of_is = h.0.1.0;
        stood = h.0.1.1.0;
        array = h.0.1.1.1;
        planned = h.1;
        update = h.0.2;
        within = plan_stores-each (update_store source.of) body plan (λ entry. IsIn entry.0 h.0.2.writing.region) (λ p cell o within put. h.0.2.targets p within) stores stored;
      }) plans made (each_both (HasUpdatePlan source.of Q) (Contains plans) (λ plan. HasUpdatePlan source.of Q plan × Contains plans plan)
      (λ plan has planned. (has, planned)) plans planned (each_itself plans)) are_made

  -- the locks of a row that is written
  abbrev member_locks : Member → Writing → List Lock
  member_locks member writing =
      map (tile_lock source.collection member.oid Exclusive) (places_meeting (extents_of member) writing.region) ++ grown_locks source.collection member writing

  -- such a lock is listed
  asked : (one : Plan × Stores) (d : Done one) (name : LockName) → Contains (member_locks d.member d.update.writing) (name, Exclusive) → Contains (phase_4_list tree plans) (name, Exclusive)
  asked one d name has =
      exclusive_is_granted (flat_map (plan_locks request) plans) name
      (Contains-flat_map (plan_locks request) plans one.0 (name, Exclusive) d.planned
      (Contains-append_right (read_tiles (source ∷ []) body (one.0.number, one.0.row)) (write_locks source.collection one.0.row one.0.writing) (name, Exclusive)
      (subst (λ l. Contains {X = Lock} l (name, Exclusive)) (λ i. write_locks source.collection (sym d.update.row_is i) (sym d.update.writes i)) has)))

  module _ (list : List Lock) (parents : HasParents list) (apart : (name : LockName) → Names list name → Contains (phase_4_list tree plans) (name, Exclusive) → ⊥) where
    grown_stays : (one : Plan × Stores) (d : Done one) → Names list (Domain source.collection d.member.oid) → grown_of one.0 ≡ d.member.array.domain
    grown_stays one d named =
        ap grown_in d.update.writes
        ∙ domain-kept source.collection d.member d.update.writing (λ has. apart (Domain source.collection d.member.oid) named (asked one d (Domain source.collection d.member.oid)
        (Contains-append_right (map (tile_lock source.collection d.member.oid Exclusive) (places_meeting (extents_of d.member) d.update.writing.region))
        (grown_locks source.collection d.member d.update.writing) (Domain source.collection d.member.oid, Exclusive) has)))

    -- no point of a tile is written that isn't locked exclusively
    tile_outside : (one : Plan × Stores) (d : Done one) (place : ArrayVec ℤ) → Names list (Tile source.collection d.member.oid place) → (p : List ℤ)
        → lies_at (extents_in (slice_get types collection.set_type)) place.items p ≡ true → ¬ IsIn p d.update.writing.region
    tile_outside one d place named p passes in_region =
        let region : Box = d.update.writing.region in
        let es : List ℕ = source.of.extents.items in
        let both = and_parts (length place.items == length es) (is_in p (grid_box es place.items)) (subst (λ o. lies_at (extents_in o) place.items p ≡ true) is.type passes) in
        let same : length region ≡ length es = length-LiesIn region source.of.bounds.items ((LiesIn-lies_in region source.of.bounds.items).0 d.update.within) ∙ sym type.each_extent in
        let met : Contains (places_meeting es region) place.items =
        met_place es place.items p region type.some_extent (All-from_recursion IsOrdered region d.update.ordered) same
        (eqb-true (length place.items) (length es) both.0) ((IsIn-is_in p (grid_box es place.items)).0 both.1) in_region in
        let here : Contains (places_meeting (extents_of d.member) region) place.items = subst (λ t. Contains (places_meeting t.extents.items region) place.items) (sym d.of_is) met in
        apart (Tile source.collection d.member.oid place) named (asked one d (Tile source.collection d.member.oid place)
        (Contains-append_left (map (tile_lock source.collection d.member.oid Exclusive) (places_meeting (extents_of d.member) region))
        (grown_locks source.collection d.member d.update.writing) (Tile source.collection d.member.oid place, Exclusive)
        (Contains-map (tile_lock source.collection d.member.oid Exclusive) (places_meeting (extents_of d.member) region) place.items here)))

    shown_domain : (id : ℕ) → Names list (Domain source.collection id) → (one : Plan × Stores) → Done one → IsShown collection.arrays source.of id (λ array. domain_seen array.domain) one
    shown_domain id named one d =
        (d.member, d.update.row_is, d.stood, λ same. ap domain_seen (grown_stays one d (subst (λ k. Names list (Domain source.collection k)) (sym same) named)))

    shown_tile : (id : ℕ) (place : ArrayVec ℤ) → Names list (Tile source.collection id place) → (one : Plan × Stores) → Done one
        → IsShown collection.arrays source.of id (stored_in_tile types collection place.items) one
    shown_tile id place named one d = (
      d.member,
      d.update.row_is,
      d.stood,
      λ same.
          let tile : Names list (Tile source.collection d.member.oid place) = subst (λ k. Names list (Tile source.collection k place)) (sym same) named in
          ap (tile_seen collection.set_type) (tile-kept source.of d.member.array (grown_of one.0) d.update.writing.region one.1
          (lies_at (extents_in (slice_get types collection.set_type)) place.items)
          (grown_stays one d (parents.tiles source.collection d.member.oid place tile)) d.array.each_point d.within (tile_outside one d place tile)),
    )

    abbrev pub change : CollectionOf → CollectionOf
    change c = with_arrays c (with_updated source.of c.arrays made)

    abbrev pub after : Database
    after = with_changed source.collection change database

    -- what is found afterwards
    found_changed : collection_of after source.collection ≡ Some (change collection)
    found_changed =
        subst (λ o. collection_of (with_changed_if_any source.collection change o database) source.collection ≡ Some (change collection)) (sym is.found)
        (lookup-insert_entry (slice_cmp nat_cmp) exact_bytes source.collection (change collection) nat_list_cmp_total database)

    abbrev Stays : LockName → Type 0
    Stays name = look_at types name after ≡ look_at types name database

    collection_stays : AllByRecursion Done made → Stays (Collection source.collection)
    collection_stays all =
        let show : CollectionOf → Seen = λ c. collection_seen c.set_type c.next (keys_of c.arrays) in
        let rewritten = each_weaker Done (IsRewritten collection.arrays) (λ one d. (d.member, d.update.row_is, d.stood)) made all in
        ap (option_map show) found_changed
        ∙ ap (λ keys. Some (collection_seen collection.set_type collection.next keys)) (updated-keys collection.arrays source.of is.over.ordered collection.arrays made rewritten refl)
        ∙ sym (ap (option_map show) is.found)

    domain_stays : AllByRecursion Done made → (id : ℕ) → Names list (Domain source.collection id) → Stays (Domain source.collection id)
    domain_stays all id named =
        let show : CollectionOf → Array → Seen = λ c array. domain_seen array.domain in
        ap (with_array show id) found_changed
        ∙ updated-shown collection.arrays source.of is.over.ordered id (show collection) collection.arrays made
        (each_weaker Done (IsShown collection.arrays source.of id (show collection)) (shown_domain id named) made all) refl
        ∙ sym (ap (with_array show id) is.found)

    tile_stays : AllByRecursion Done made → (id : ℕ) (place : ArrayVec ℤ) → Names list (Tile source.collection id place) → Stays (Tile source.collection id place)
    tile_stays all id place named =
        let show : CollectionOf → Array → Seen = λ c. stored_in_tile types c place.items in
        ap (with_array show id) found_changed
        ∙ updated-shown collection.arrays source.of is.over.ordered id (show collection) collection.arrays made
        (each_weaker Done (IsShown collection.arrays source.of id (show collection)) (shown_tile id place named) made all) refl
        ∙ sym (ap (with_array show id) is.found)

    own_stays : AllByRecursion Done made → (name : LockName) → Names list name → collection_in name ≡ source.collection → Stays name
    own_stays all (Collection n) named same = subst (λ m. Names list (Collection m) → Stays (Collection m)) (sym same) (λ _. collection_stays all) named
    own_stays all (Domain n id) named same = subst (λ m. Names list (Domain m id) → Stays (Domain m id)) (sym same) (domain_stays all id) named
    own_stays all (Tile n id place) named same = subst (λ m. Names list (Tile m id place) → Stays (Tile m id place)) (sym same) (tile_stays all id place) named

    pub update_stays : AllByRecursion Done made → Agrees types list after database
    update_stays all name mode has = ⊎_elim
        (λ at. own_stays all name (mode, has) (tells_apart exact_bytes (collection_in name) source.collection at))
        (λ apart. look_at-same types name after database (changed_in-other source.collection change (collection_of database source.collection) database
        (collection_in name) (differ (collection_in name) source.collection apart)))
        (cases_Bool (is_eq (slice_cmp nat_cmp (collection_in name) source.collection)))
