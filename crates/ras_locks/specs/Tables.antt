-- A table of locks: the holders of each lock by its name, and the names that are listed under each owner.
use Rattle.std.specs.Prelude.{ℕ, ◌≡◌, ◌≢◌, ◌<◌, ◌≤◌, ◌⊎◌, Bool, true, nat_eq, if◌then◌else◌, List, [], ◌∷◌, Contains, Option, None, Some, slice_get}
use Rattle.std.specs.List.{list_any}
use Rattle.std.specs.List.Sorted.{IsStrictlySortedBy}
use Rattle.std.specs.Map.{lookup}
use Rattle.smallvec.specs.SmallVec.{SmallVec}
use Rattle.ras_domain.specs.declared.lock.LockName.{LockName}
use Rattle.ras_domain.specs.declared.lock.Mode.{Mode}
use Rattle.ras_domain.specs.declared.lock.Mode.TheVariants.{Exclusive}
use Rattle.ras_domain.specs.contracts.lock.LockNamePartialEq.TheImpl as equal_names
use Rattle.ras_locks.specs.declared.holders.Holder.{Holder}
use Rattle.ras_locks.specs.Holders.{by_owner, is_among, with_holder, HasRoomToHold}

abbrev pub equals_lock_name : LockName → LockName → Bool
equals_lock_name = (equal_names.ghosts).eq

-- the holders of each name that has an entry, with how many fit there without memory, and the names that are listed under each
-- owner: all that it holds, and those that were made ready for it
pub record HeldLocks : Type 0 where
  pub names : List (LockName × SmallVec Holder)
  pub owners : List (ℕ × List LockName)

-- ---- holders

abbrev pub items_or_none : Option (SmallVec Holder) → List Holder
items_or_none None = []
items_or_none (Some slot) = slot.items

abbrev pub holders_in : List (LockName × SmallVec Holder) → LockName → List Holder
holders_in names name = items_or_none (lookup (equals_lock_name name) names)

-- the holders of a name, none where it has no entry
abbrev pub holders_of : HeldLocks → LockName → List Holder
holders_of table name = holders_in table.names name

-- a name's holders once an owner is granted a list
abbrev pub with_locks : List (LockName × Mode) → ℕ → LockName → List Holder → List Holder
with_locks [] owner name holders = holders
with_locks (lock ∷ locks) owner name holders =
    with_locks locks owner name (if equals_lock_name lock.0 name then with_holder owner lock.1 holders else holders)

-- ---- room

abbrev pub IsReadyIn : Option (SmallVec Holder) → ℕ → Type 0
IsReadyIn None owner = ⊥
IsReadyIn (Some slot) owner = HasRoomToHold owner slot

-- an owner can be put among the holders of a name without memory
abbrev pub IsReadyAt : List (LockName × SmallVec Holder) → LockName → ℕ → Type 0
IsReadyAt names name owner = IsReadyIn (lookup (equals_lock_name name) names) owner

abbrev pub lists_name : LockName → List LockName → Bool
lists_name name names = list_any (λ one. equals_lock_name one name) names

abbrev pub names_or_none : Option (List LockName) → List LockName
names_or_none None = []
names_or_none (Some names) = names

abbrev pub names_in : List (ℕ × List LockName) → ℕ → List LockName
names_in owners owner = names_or_none (lookup (nat_eq owner) owners)

-- an owner can be granted the lock of this name without memory
pub record IsReserved (table : HeldLocks) (name : LockName) (owner : ℕ) : Type 0 where
  pub ready : IsReadyAt table.names name owner
  pub listed : lists_name name (names_in table.owners owner) ≡ true

-- and the locks of a list
abbrev pub AreReserved : HeldLocks → List (LockName × Mode) → ℕ → Type 0
AreReserved table list owner = (place : ℕ) (lock : LockName × Mode) → slice_get list place ≡ Some lock → IsReserved table lock.0 owner

-- what is true of every table: the holders of a name stand in the order of owners, each once, and each holder has the name in its list
pub record IsKeptTable (table : HeldLocks) : Type 0 where
  pub ordered : (name : LockName) → IsStrictlySortedBy by_owner (holders_of table name)
  pub listed : (name : LockName) (owner : ℕ) → is_among owner (holders_of table name) ≡ true → lists_name name (names_in table.owners owner) ≡ true

-- ---- conflicts

-- another owner holds the lock, and either it or the one who asks wants it alone
pub record IsContestedBy (table : HeldLocks) (owner : ℕ) (lock : LockName × Mode) (other : ℕ) : Type 0 where
  pub mode : Mode
  pub held : Contains (holders_of table lock.0) (record { owner = other; mode = mode })
  pub others : owner ≢ other
  pub not_shared : (lock.1 ≡ Exclusive) ⊎ (mode ≡ Exclusive)

-- no lock of the list conflicts
abbrev pub IsUncontested : HeldLocks → List (LockName × Mode) → ℕ → Type 0
IsUncontested table list owner = (place : ℕ) (lock : LockName × Mode) → slice_get list place ≡ Some lock → (other : ℕ) → IsContestedBy table owner lock other → ⊥

-- the lock at this place is the first of the list that conflicts, and this is the least owner that it conflicts with
pub record IsFirstConflict (table : HeldLocks) (list : List (LockName × Mode)) (owner place other : ℕ) : Type 0 where
  pub lock : LockName × Mode
  pub found : slice_get list place ≡ Some lock
  pub contested : IsContestedBy table owner lock other
  pub least : (third : ℕ) → IsContestedBy table owner lock third → other ≤ third
  pub first : (before : ℕ) (one : LockName × Mode) → before < place → slice_get list before ≡ Some one → (third : ℕ) → IsContestedBy table owner one third → ⊥
