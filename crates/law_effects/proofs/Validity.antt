-- What statements do keeps a database valid.
use Rattle.std.proofs.Common.{◌≡◌, ◌+◌, ℕ, ◌<◌, ◌≤◌, ℤ, List, [], ◌∷◌, slice_get, Option, Some, None, IfSome, refl, sym, ap, ◌∙◌, subst, arith}
use Rattle.std.specs.List.{AllByRecursion}
use Rattle.std.specs.List.Sorted.{IsStrictlySortedBy}
use Rattle.std.specs.Map.{keys_of}
use Rattle.std.specs.BTreeMap.{insert_entry}
use Rattle.std.specs.Ordering.{is_eq, nat_cmp}
use Rattle.std.specs.Cmp.Lexicographic.{slice_cmp}
use Rattle.std.proofs.lemmas.Cmp.{nat_cmp_total, nat_list_cmp_total}
use Rattle.std.proofs.lemmas.List.Elements.{All-from_recursion, recursion_from_All}
use Rattle.std.proofs.lemmas.Map.Lookups.{exact_bytes, exact_unsigned}
use Rattle.ras_cells.specs.Atoms.{AreInRange}
use Rattle.ras_cells.specs.Stored.{atoms_of}
use Rattle.ras_syntax.specs.declared.types.SetType.{SetType}
use Rattle.ras_syntax.specs.declared.typed.CheckedSource.{CheckedSource}
use Rattle.spec_expressions.specs.Database.{Array, Collection, Database, Member, collection_of}
use Rattle.spec_expressions.specs.SetTypes.{AreTypes, IsSetType}
use Rattle.spec_statements.specs.Plans.{Plan}
use Rattle.spec_statements.specs.Effects.{Stores, with_changed, with_changed_if_any, empty_collection, grown_in, grown_of, insert_outcome, no_array, with_arrays, with_collection, with_inserted, with_row, with_updated, without_array, without_arrays, without_collection, written_array}
use Rattle.spec_statements.specs.Rows.{combinations, members_of}
use Rattle.spec_statements.specs.Validity.{IsArrayOf, IsCollectionOver, IsValidFor}
use Rattle.law_lists.proofs.Each.{each_weaker, slice_get-All, each_both}
use Rattle.law_effects.proofs.Checked.{type_in}
use Rattle.law_lists.proofs.Maps.{each-insert_entry, each-remove_entry, sorted-insert_entry, sorted-remove_entry}
use Rattle.law_effects.proofs.Plans.{IsUpdatePlan}
use Rattle.law_effects.proofs.Rows.{HasOne, each_combination, each_member}
use Rattle.law_effects.proofs.Written.{IsArrayOf-written_array, IsFit, found_each}

-- ---- the arrays of a collection

-- an entry of a collection of this set type
abbrev pub IsEntryOf : SetType → ℕ → ℕ × Array → Type 0
IsEntryOf of next entry = (1 ≤ entry.0) × (entry.0 < next) × IsArrayOf of entry.1

-- entries of arrays of a set type whose identifiers were given out
pub record AreArraysOf (of : SetType) (next : ℕ) (arrays : List (ℕ × Array)) : Type 0 where
  pub ordered : IsStrictlySortedBy nat_cmp (keys_of arrays)
  pub each : AllByRecursion (λ entry. (1 ≤ entry.0) × (entry.0 < next) × IsArrayOf of entry.1) arrays

-- one more array, and some less
arrays_with : (of : SetType) (next id : ℕ) (array : Array) (arrays : List (ℕ × Array)) → 1 ≤ id → id < next → IsArrayOf of array → AreArraysOf of next arrays
    → AreArraysOf of next (insert_entry nat_cmp arrays id array)
arrays_with of next id array arrays some small is are = record {
  ordered = sorted-insert_entry nat_cmp exact_unsigned id array nat_cmp_total arrays are.ordered;
  each = each-insert_entry nat_cmp exact_unsigned id array (IsEntryOf of next) arrays are.each (some, small, is);
}

arrays_without : (of : SetType) (next : ℕ) (arrays : List (ℕ × Array)) (ids : List ℕ) → AreArraysOf of next arrays → AreArraysOf of next (without_arrays arrays ids)
arrays_without of next arrays [] are = are
arrays_without of next arrays (id ∷ ids) are =
    arrays_without of next (without_array arrays id) ids (record {
      ordered = sorted-remove_entry (λ other. is_eq (nat_cmp id other)) nat_cmp arrays are.ordered;
      each = each-remove_entry (λ other. is_eq (nat_cmp id other)) (IsEntryOf of next) arrays are.each;
    })

-- identifiers that were given out stay so
arrays_later : (of : SetType) (next : ℕ) (arrays : List (ℕ × Array)) → AreArraysOf of next arrays → AreArraysOf of (next + 1) arrays
arrays_later of next arrays are = record {
  ordered = are.ordered;
  each = each_weaker (IsEntryOf of next) (IsEntryOf of (next + 1)) (λ entry e. (e.0, omega (arith, e.1), e.2)) arrays are.each;
}

-- the arrays of a collection, and a collection of such arrays
pub collection-arrays : (types : List SetType) (of : SetType) (collection : Collection) → IsCollectionOver types collection
    → slice_get types collection.set_type ≡ Some of → AreArraysOf of collection.next collection.arrays
collection-arrays types of collection is type =
    let same : is.of ≡ of = let e : Some is.of ≡ Some of = sym is.set_type ∙ type in cc in
    record {
      ordered = is.ordered;
      each = each_both (λ entry. (1 ≤ entry.0) × (entry.0 < collection.next)) (λ entry. IsArrayOf of entry.1) (IsEntryOf of collection.next)
          (λ entry given is_array. (given.0, given.1, is_array)) collection.arrays (recursion_from_All _ collection.arrays is.identifiers)
          (subst (λ t. AllByRecursion (λ entry. IsArrayOf t entry.1) collection.arrays) same (recursion_from_All _ collection.arrays is.arrays));
    }

pub collection-from : (types : List SetType) (of : SetType) (collection : Collection) → slice_get types collection.set_type ≡ Some of → 1 ≤ collection.next
    → AreArraysOf of collection.next collection.arrays → IsCollectionOver types collection
collection-from types of collection type some are = record {
  of = of;
  set_type = type;
  some_next = some;
  ordered = are.ordered;
  identifiers =
      All-from_recursion _ collection.arrays (each_weaker (IsEntryOf of collection.next) (λ entry. (1 ≤ entry.0) × (entry.0 < collection.next)) (λ entry e. (e.0, e.1))
      collection.arrays are.each);
  arrays = All-from_recursion _ collection.arrays (each_weaker (IsEntryOf of collection.next) (λ entry. IsArrayOf of entry.1) (λ entry e. e.2) collection.arrays are.each);
}

-- ---- the collections of a database

-- a collection that is put into a database, and one that is taken out
with_collection-valid : (types : List SetType) (name : List ℕ) (collection : Collection) (database : Database) → IsValidFor types database
    → IsCollectionOver types collection → IsValidFor types (with_collection name collection database)
with_collection-valid types name collection database valid is =
    let P : List ℕ × Collection → Type 0 = λ entry. IsCollectionOver types entry.1 in
    record {
      ordered = sorted-insert_entry (slice_cmp nat_cmp) exact_bytes name collection nat_list_cmp_total database valid.ordered;
      collections = All-from_recursion P _ (each-insert_entry (slice_cmp nat_cmp) exact_bytes name collection P database (recursion_from_All P database valid.collections) is);
    }

pub without_collection-valid : (types : List SetType) (name : List ℕ) (database : Database) → IsValidFor types database → IsValidFor types (without_collection name database)
without_collection-valid types name database valid =
    let P : List ℕ × Collection → Type 0 = λ entry. IsCollectionOver types entry.1 in
    record {
      ordered = sorted-remove_entry (λ other. is_eq (slice_cmp nat_cmp name other)) (slice_cmp nat_cmp) database valid.ordered;
      collections = All-from_recursion P _ (each-remove_entry (λ other. is_eq (slice_cmp nat_cmp name other)) P database (recursion_from_All P database valid.collections));
    }

-- a collection that a database has is one over the types
pub found_collection : (types : List SetType) (database : Database) (name : List ℕ) → IsValidFor types database → IfSome (collection_of database name) (IsCollectionOver types)
found_collection types database name valid =
    let P : List ℕ × Collection → Type 0 = λ entry. IsCollectionOver types entry.1 in
    found_each (IsCollectionOver types) (λ other. is_eq (slice_cmp nat_cmp name other)) database (recursion_from_All P database valid.collections)

-- a collection with a set type is there
has_collection : (types : List SetType) (found : Option Collection) (of : SetType) → type_in types found ≡ Some of → (collection : Collection)
    × (found ≡ Some collection) × (slice_get types collection.set_type ≡ Some of)
has_collection types None of is = absurd cc
has_collection types (Some collection) of is = (collection, refl, is)

-- what a statement needs to know of the collection that it changes
pub record IsCollectionIn (types : List SetType) (database : Database) (name : List ℕ) (of : SetType) (collection : Collection) : Type 0 where
  pub found : collection_of database name ≡ Some collection
  pub type : slice_get types collection.set_type ≡ Some of
  pub over : IsCollectionOver types collection

-- a collection with a set type is one that the database has
pub collection_in : (types : List SetType) (database : Database) (name : List ℕ) (of : SetType) → IsValidFor types database
    → type_in types (collection_of database name) ≡ Some of → (collection : Collection) × IsCollectionIn types database name of collection
collection_in types database name of valid is =
    let (collection, found, type) = has_collection types (collection_of database name) of is in
    (collection, record { found = found; type = type; over = subst (λ o. IfSome o (IsCollectionOver types)) found (found_collection types database name valid) })

-- a change of one collection
pub changed-valid : (types : List SetType) (name : List ℕ) (of : SetType) (collection : Collection) (change : Collection → Collection) (database : Database)
    → IsValidFor types database → IsCollectionIn types database name of collection → IsCollectionOver types (change collection)
    → IsValidFor types (with_changed name change database)
changed-valid types name of collection change database valid is over =
    subst (λ o. IsValidFor types (with_changed_if_any name change o database)) (sym is.found) (with_collection-valid types name (change collection) database valid over)

-- ---- each form

-- a type among the types may be declared
pub type_fits : (types : List SetType) (k : ℕ) (of : SetType) → AreTypes types → slice_get types k ≡ Some of → IsSetType of
type_fits types k of are is = slice_get-All IsSetType types k of are.each is

-- the rows of a request with one source
pub each_row : (database : Database) (source : CheckedSource) (collection : Collection) (P : ℕ × Array → Type 0)
    → collection_of database source.collection ≡ Some collection → AllByRecursion P collection.arrays → (asked : List (List ℕ × ℤ))
    → AllByRecursion (HasOne (λ member. (member.of ≡ source.of) × P (member.oid, member.array))) (combinations (members_of database asked source ∷ []))
each_row database source collection P found all asked =
    each_combination (λ member. (member.of ≡ source.of) × P (member.oid, member.array)) (members_of database asked source) (each_member database asked source collection P found all)

-- what creating and deleting leave
pub create-valid : (types : List SetType) (name : List ℕ) (place : ℕ) (of : SetType) (database : Database) → IsValidFor types database → slice_get types place ≡ Some of
    → IsValidFor types (with_collection name (empty_collection place) database)
unfolding IsStrictlySortedBy
create-valid types name place of database valid type =
    with_collection-valid types name (empty_collection place) database valid
    (collection-from types of (empty_collection place) type (omega arith) (record { ordered = tt; each = tt }))

pub delete-valid : (types : List SetType) (name : List ℕ) (of : SetType) (ids : List ℕ) (database : Database) → IsValidFor types database
    → type_in types (collection_of database name) ≡ Some of
    → IsValidFor types (with_changed name (λ collection. with_arrays collection (without_arrays collection.arrays ids)) database)
delete-valid types name of ids database valid type =
    let (collection, is) = collection_in types database name of valid type in
    changed-valid types name of collection (λ collection. with_arrays collection (without_arrays collection.arrays ids)) database valid is
    (collection-from types of (with_arrays collection (without_arrays collection.arrays ids)) is.type is.over.some_next
    (arrays_without of collection.next collection.arrays ids (collection-arrays types of collection is.over is.type)))

-- what is stored of a plan
abbrev pub AreStored : SetType → Stores → Type 0
AreStored of stores = AllByRecursion (λ entry. IfSome entry.1 (AreInRange (atoms_of of.cell))) stores

-- what an insert does with a plan
abbrev pub IsInserted : SetType → Plan × Stores → Type 0
IsInserted of one = IsFit of (grown_of one.0) × AreStored of one.1

-- what an insert leaves
pub inserted-valid : (types : List SetType) (name : List ℕ) (of : SetType) (database : Database) (made : List (Plan × Stores)) → AreTypes types
    → IsValidFor types database → type_in types (collection_of database name) ≡ Some of → AllByRecursion (IsInserted of) made
    → IsValidFor types (insert_outcome name of database made).1
inserted-valid types name of database [] are valid type all = valid
inserted-valid types name of database (one ∷ others) are valid type all =
    let (collection, is) = collection_in types database name of valid type in
    let new : Array = written_array of no_array (grown_of one.0) one.1 in
    changed-valid types name of collection (λ collection. with_inserted collection new) database valid is
    (collection-from types of (with_inserted collection new) is.type (omega (arith, is.over.some_next))
    (arrays_with of (collection.next + 1) collection.next new collection.arrays is.over.some_next (omega arith)
    (IsArrayOf-written_array of no_array (grown_of one.0) one.1 (type_fits types collection.set_type of are is.type) all.0.0 tt all.0.1)
    (arrays_later of collection.next collection.arrays (collection-arrays types of collection is.over is.type))))

-- the member of a row of an update
abbrev pub IsMemberIn : SetType → ℕ → Member → Type 0
IsMemberIn of next member = (member.of ≡ of) × ((1 ≤ member.oid) × (member.oid < next) × IsArrayOf of member.array)

-- what an update does with a plan
abbrev pub IsUpdated : SetType → ℕ → Plan × Stores → Type 0
IsUpdated of next one =
    (member : Member) × IsMemberIn of next member × IsUpdatePlan of member one.0 × AreStored of one.1

grown-is : (of : SetType) (member : Member) (plan : Plan) → (is : IsUpdatePlan of member plan) → grown_of plan ≡ is.writing.grown
grown-is of member plan is = ap grown_in is.writes

-- what an update leaves of the arrays
pub updated-arrays : (of : SetType) (next : ℕ) (arrays : List (ℕ × Array)) (made : List (Plan × Stores)) → IsSetType of → AreArraysOf of next arrays
    → AllByRecursion (IsUpdated of next) made → AreArraysOf of next (with_updated of arrays made)
updated-arrays of next arrays [] type are all = are
updated-arrays of next arrays (one ∷ others) type are all =
    let (member, in_collection, plan, stored) = all.0 in
    let array : IsArrayOf of member.array = in_collection.1.2 in
    let fit : IsFit of (grown_of one.0) = subst (IsFit of) (sym (grown-is of member one.0 plan)) plan.fit in
    updated-arrays of next (with_row of arrays one.0.row (grown_of one.0) one.1) others type
    (subst (λ row. AreArraysOf of next (with_row of arrays row (grown_of one.0) one.1)) (sym plan.row_is)
    (arrays_with of next member.oid (written_array of member.array (grown_of one.0) one.1) arrays in_collection.1.0 in_collection.1.1
    (IsArrayOf-written_array of member.array (grown_of one.0) one.1 type fit (recursion_from_All _ member.array.stored array.in_range) stored) are))
    all.1
