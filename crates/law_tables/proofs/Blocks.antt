-- Conflicts in a table and blocks in the history whose locks it has.
use Rattle.std.proofs.Common.{◌≡◌, ◌≢◌, ◌<◌, ◌≤◌, ◌+◌, ◌⊎◌, inl, inr, ℕ, zero, suc, List, [], ◌∷◌, ◌++◌, Contains, take, drop, length, get_or, refl, sym, ap, ◌∙◌, subst, arith, add-one}
use Rattle.std.specs.Prelude.{Some, slice_get}
use Rattle.std.proofs.lemmas.Option.{slice_get_read, slice_get_within}
use Rattle.law_lists.proofs.Elements.{first_or_later}
use Rattle.ras_domain.specs.declared.lock.LockName.{LockName}
use Rattle.ras_domain.specs.declared.lock.Mode.{Mode}
use Rattle.ras_domain.specs.declared.lock.Mode.TheVariants.{Exclusive}
use Rattle.spec_statements.specs.Locks.{Conflicts, Lock}
use Rattle.spec_histories.specs.History.{History, Holds, granted_locks, events_of}
use Rattle.spec_histories.specs.Legal.{IsBlockedBy, IsFirstBlocked, IsFree}
use Rattle.ras_locks.specs.declared.holders.Holder.{Holder}
use Rattle.ras_locks.specs.Tables.{IsContestedBy, IsFirstConflict, IsUncontested, HeldLocks, holders_of}
use Rattle.law_tables.specs.Tied.{HasEntry, IsTableOf}

pub empty_table : (table : HeldLocks) → ((name : LockName) → holders_of table name ≡ []) → IsTableOf [] table
empty_table table none = record {
  sound = λ name holder has. absurd (omega (arith, (subst (λ hs. Contains hs holder) (none name) has).1));
  complete = λ t lock holds. absurd (omega (arith, holds.granted.1));
}

pub to_block : (past : History) (table : HeldLocks) (t : ℕ) (lock : Lock) (other : ℕ) → IsTableOf past table → IsContestedBy table t lock other → IsBlockedBy past t lock other
to_block past table t lock other tied contested = record {
  held = (lock.0, contested.mode);
  holds = tied.sound lock.0 (record { owner = other; mode = contested.mode }) contested.held;
  conflicts = record { same_name = refl; others = contested.others; not_shared = contested.not_shared };
}

pub from_block : (past : History) (table : HeldLocks) (t : ℕ) (lock : Lock) (other : ℕ) → IsTableOf past table → IsBlockedBy past t lock other → IsContestedBy table t lock other
from_block past table t lock other tied blocked =
    let entry = tied.complete other blocked.held blocked.holds in
    record {
      mode = entry.mode;
      held = subst (λ n. Contains (holders_of table n) (record { owner = other; mode = entry.mode })) (sym blocked.conflicts.same_name) entry.entry;
      others = blocked.conflicts.others;
      not_shared = elim blocked.conflicts.not_shared [ inl e ↦ inl e | inr e ↦ inr (entry.strong e) ];
    }

-- an element of a list stands at some place
placed : (list : List Lock) (lock : Lock) → Contains list lock → (place : ℕ) × (place < length list) × (slice_get list place ≡ Some lock)
placed list lock has = (has.0, has.1, slice_get_read list (length list) has.0 lock refl has.1 (sym has.2))

-- and what stands at a place is an element
element : (list : List Lock) (place : ℕ) (lock : Lock) → slice_get list place ≡ Some lock → Contains list lock
element [] place lock at = absurd cc
element (one ∷ list) zero lock at = let same : one ≡ lock = cc in (0, omega arith, same)
element (one ∷ list) (suc place) lock at = let later = element list place lock at in (suc later.0, omega (arith, later.1), later.2)

pub free_from : (past : History) (table : HeldLocks) (t : ℕ) (list : List Lock) → IsTableOf past table → IsUncontested table list t → (lock : Lock) → Contains list lock → IsFree past t lock
free_from past table t list tied clear lock has other blocked =
    let at = placed list lock has in
    clear at.0 lock at.2 other (from_block past table t lock other tied blocked)

pub uncontested_from : (past : History) (table : HeldLocks) (t : ℕ) (list : List Lock) → IsTableOf past table → ((lock : Lock) → Contains list lock → IsFree past t lock) → IsUncontested table list t
uncontested_from past table t list tied free place lock at other contested = free lock (element list place lock at) other (to_block past table t lock other tied contested)

-- a list around one of its places
around : (list : List Lock) (place : ℕ) (lock : Lock) → slice_get list place ≡ Some lock → list ≡ take place list ++ lock ∷ drop (suc place) list
around [] place lock at = absurd cc
around (one ∷ list) zero lock at = let same : one ≡ lock = cc in ap (λ l. l ∷ list) same
around (one ∷ list) (suc place) lock at = ap (λ l. one ∷ l) (around list place lock at)

-- an element of the first ones stands at a place before
before_place : (list : List Lock) (place : ℕ) (lock : Lock) → Contains (take place list) lock → (before : ℕ) × (before < place) × (slice_get list before ≡ Some lock)
before_place [] zero lock has = absurd (omega (arith, has.1))
before_place [] (suc place) lock has = absurd (omega (arith, has.1))
before_place (one ∷ list) zero lock has = absurd (omega (arith, has.1))
before_place (one ∷ list) (suc place) lock has = elim (first_or_later lock one (take place list) has) [
  | inl same ↦ (0, omega arith, ap Some same)
  | inr later ↦ let deeper = before_place list place lock later in (suc deeper.0, omega (arith, deeper.1), deeper.2)
]

pub first_block : (past : History) (table : HeldLocks) (t : ℕ) (list : List Lock) (place other : ℕ) → IsTableOf past table → (conflict : IsFirstConflict table list t place other)
    → IsFirstBlocked past t list conflict.lock other
first_block past table t list place other tied conflict = record {
  before = take place list;
  behind = drop (suc place) list;
  parts = around list place conflict.lock conflict.found;
  free_before = λ one has holder blocked.
      let at = before_place list place one has in
      conflict.first at.0 one at.1 at.2 holder (from_block past table t one holder tied blocked);
  blocked = to_block past table t conflict.lock other tied conflict.contested;
  least = λ third blocked. conflict.least third (from_block past table t conflict.lock third tied blocked);
}

-- tables with the same holders agree on what doesn't conflict
pub uncontested_same : (table new : HeldLocks) (t : ℕ) (list : List Lock) → ((name : LockName) → holders_of new name ≡ holders_of table name) → IsUncontested table list t → IsUncontested new list t
uncontested_same table new t list same clear place lock at other contested = clear place lock at other (record {
  mode = contested.mode;
  held = subst (λ hs. Contains hs (record { owner = other; mode = contested.mode })) (same lock.0) contested.held;
  others = contested.others;
  not_shared = contested.not_shared;
})
