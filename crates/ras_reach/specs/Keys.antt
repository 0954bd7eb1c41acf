-- The keys by which the names of locks are ordered.
use Rattle.std.specs.Prelude.{◌≡◌, List, [], ◌∷◌, map, ◌==◌, if◌then◌else◌}
use Rattle.std.specs.Cmp.Lexicographic.{slice_cmp}
use Rattle.std.specs.Ordering.{int_cmp, nat_cmp, ordering_then}
use Rattle.std.specs.declared.cmp.Ordering.{Ordering}
use Rattle.ras_domain.specs.declared.lock.LockName.{LockName}
use Rattle.ras_domain.specs.declared.lock.LockName.TheVariants as names
use Rattle.ras_domain.specs.declared.lock.Mode.{Mode}
use Rattle.spec_statements.specs.Locks.{Lock, collection_in, identifier_in, level_in, place_in, with_lock}
use Rattle.ras_reach.specs.declared.keys.LockKey.{LockKey}

abbrev pub lock_key : LockName → LockKey
lock_key name = record { collection = collection_in name; level = level_in name; oid = identifier_in name; place = record { items = place_in name } }

abbrev pub name_of_key : LockKey → LockName
name_of_key key =
    if key.level == 0 then names.Collection key.collection else
    if key.level == 1 then names.Domain key.collection key.oid else
    names.Tile key.collection key.oid key.place

-- the order of keys: by the collection, then the level, then the identifier, then the place
abbrev pub key_cmp : LockKey → LockKey → Ordering
key_cmp a b =
    ordering_then (slice_cmp nat_cmp a.collection b.collection)
    (ordering_then (nat_cmp a.level b.level)
    (ordering_then (nat_cmp a.oid b.oid)
    (slice_cmp int_cmp a.place.items b.place.items)))

-- locks with their keys in place of their names
abbrev pub keyed : List Lock → List (LockKey × Mode)
keyed locks = map (λ lock. (lock_key lock.0, lock.1)) locks

abbrev pub names_kept : List (LockKey × Mode) → List Lock
names_kept entries = map (λ entry. (name_of_key entry.0, entry.1)) entries

-- locks put into a list, the last one first
abbrev pub put_before : List Lock → List Lock → List Lock
put_before [] base = base
put_before (lock ∷ locks) base = with_lock lock (put_before locks base)

-- each key is that of its name
pub record AreKeyed (entries : List (LockKey × Mode)) : Type 0 where
  pub kept : entries ≡ keyed (names_kept entries)
