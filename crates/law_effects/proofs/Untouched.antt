-- What shows nothing of a changed collection stays.
use Rattle.std.proofs.Common.{◌≡◌, ℕ, true, false, List, option_map, Option, Some, None, true≢false, refl, sym, ap, ◌∙◌, subst}
use Rattle.std.specs.Map.{keys_of}
use Rattle.std.specs.Ordering.{is_eq, nat_cmp}
use Rattle.std.specs.Cmp.Lexicographic.{slice_cmp}
use Rattle.std.proofs.lemmas.Bool.{false_from_ne_true}
use Rattle.std.proofs.lemmas.Cmp.{nat_list_cmp_total, tied_itself}
use Rattle.std.proofs.lemmas.Map.Lookups.{exact_bytes}
use Rattle.std.proofs.lemmas.Map.Views.{tells_apart}
use Rattle.ras_domain.specs.declared.lock.LockName.{LockName}
use Rattle.ras_domain.specs.declared.lock.LockName.TheVariants.{Collection, Domain, Tile}
use Rattle.ras_syntax.specs.declared.types.SetType.{SetType}
use Rattle.spec_expressions.specs.Database.{Collection as CollectionOf, Database, collection_of}
use Rattle.spec_statements.specs.Agree.{Agrees, collection_seen, domain_seen, look_at, stored_in_tile, with_array}
use Rattle.spec_statements.specs.Effects.{with_changed_if_any, with_collection, without_collection}
use Rattle.spec_statements.specs.Locks.{Lock, collection_in}
use Rattle.spec_statements.specs.ReachLaw.{HasParents, Names}
use Rattle.law_lists.proofs.Maps.{lookup-insert_entry_other, lookup-remove_entry_other}

-- ---- other collections

-- a lock shows nothing but its own collection
pub look_at-same : (types : List SetType) (name : LockName) (one other : Database) → collection_of one (collection_in name) ≡ collection_of other (collection_in name)
    → look_at types name one ≡ look_at types name other
look_at-same types (Collection n) one other same = ap (option_map (λ collection. collection_seen collection.set_type collection.next (keys_of collection.arrays))) same
look_at-same types (Domain n id) one other same = ap (with_array (λ collection array. domain_seen array.domain) id) same
look_at-same types (Tile n id place) one other same = ap (with_array (λ collection. stored_in_tile types collection place.items) id) same

-- names that differ, by the test
apart_names : (m n : List ℕ) → (m ≡ n → ⊥) → is_eq (slice_cmp nat_cmp m n) ≡ false
apart_names m n unlike = false_from_ne_true (is_eq (slice_cmp nat_cmp m n)) (λ same. unlike (tells_apart exact_bytes m n same))

pub differ : (m n : List ℕ) → is_eq (slice_cmp nat_cmp m n) ≡ false → m ≡ n → ⊥
differ m n apart same =
    let e : is_eq (slice_cmp nat_cmp m n) ≡ true = subst (λ k. is_eq (slice_cmp nat_cmp m k) ≡ true) same (ap is_eq (tied_itself nat_list_cmp_total m)) in
    true≢false (sym e ∙ apart)

-- another collection is found as before
pub with_collection-other : (name : List ℕ) (collection : CollectionOf) (database : Database) (m : List ℕ) → (m ≡ name → ⊥)
    → collection_of (with_collection name collection database) m ≡ collection_of database m
with_collection-other name collection database m unlike =
    lookup-insert_entry_other (slice_cmp nat_cmp) exact_bytes name collection m database (apart_names m name unlike)

pub without_collection-other : (name : List ℕ) (database : Database) (m : List ℕ) → (m ≡ name → ⊥) → collection_of (without_collection name database) m ≡ collection_of database m
without_collection-other name database m unlike =
    lookup-remove_entry_other (λ other. is_eq (slice_cmp nat_cmp name other)) (λ other. is_eq (slice_cmp nat_cmp m other))
    (λ x at. apart_names m x (λ same. unlike (same ∙ sym (tells_apart exact_bytes name x at)))) database

pub changed_in-other : (name : List ℕ) (change : CollectionOf → CollectionOf) (found : Option CollectionOf) (database : Database) (m : List ℕ) → (m ≡ name → ⊥)
    → collection_of (with_changed_if_any name change found database) m ≡ collection_of database m
changed_in-other name change None database m unlike = refl
changed_in-other name change (Some collection) database m unlike = with_collection-other name (change collection) database m unlike

-- ---- a collection that a statement has for itself

-- no lock of the list is one of this collection
abbrev pub IsFree : List Lock → List ℕ → Type 0
IsFree list collection = (name : LockName) → Names list name → collection_in name ≡ collection → ⊥

-- a list that wants no lock on the collection is free of it
pub free_from : (list : List Lock) (collection : List ℕ) → HasParents list → (Names list (Collection collection) → ⊥) → IsFree list collection
free_from list collection parents free (Collection n) named same = free (subst (λ m. Names list (Collection m)) same named)
free_from list collection parents free (Domain n id) named same = free (subst (λ m. Names list (Collection m)) same (parents.domains n id named))
free_from list collection parents free (Tile n id place) named same =
    free (subst (λ m. Names list (Collection m)) same (parents.domains n id (parents.tiles n id place named)))

-- what a free list shows stays
pub others_stay : (types : List SetType) (list : List Lock) (one other : Database) (collection : List ℕ) → IsFree list collection
    → ((m : List ℕ) → (m ≡ collection → ⊥) → collection_of one m ≡ collection_of other m) → Agrees types list one other
others_stay types list one other collection free same name mode has =
    look_at-same types name one other (same (collection_in name) (free name (mode, has)))
