-- What a core is: a database that is kept, and the history of the transactions that led to it.
use Rattle.std.specs.Prelude.{◌≡◌, ◌≢◌, ℕ, ◌+◌, ◌≤◌, List, ◌∷◌, map, length, reverse, Option, Some, IsTrue}
use Rattle.ras_domain.specs.declared.lock.LockName.{LockName}
use Rattle.ras_syntax.specs.declared.event.Event.{Event}
use Rattle.ras_syntax.specs.declared.event.Event.TheVariants.{Committed}
use Rattle.ras_syntax.specs.declared.limits.TheConstants.{MAX_FIRST_IDENTIFIER, MAX_STATEMENTS}
use Rattle.ras_syntax.specs.declared.types.Script.{Script}
use Rattle.ras_store.specs.Databases.{Keeps}
use Rattle.ras_store.specs.Kept.{Kept, changed_by_all}
use Rattle.ras_store.specs.Store.{store_kept}
use Rattle.ras_store.specs.declared.change.Change.{Change}
use Rattle.ras_store.specs.declared.store.Store.{Store}
use Rattle.ras_store.specs.declared.workload.Workload.{Workload}
use Rattle.spec_histories.specs.History.{History, Programs, committed_database, events_of, granted_locks, is_live, nth}
use Rattle.spec_histories.specs.Legal.{IsLegal}
use Rattle.spec_histories.specs.Serializable.{ArePrograms, HasRoom, IsSerializable}
use Rattle.spec_statements.specs.Agree.{Agrees}
use Rattle.spec_views.specs.Sessions.{AreShort}
use Rattle.spec_workloads.specs.Programs.{statements_in_script}
use Rattle.ras_locks.specs.Tables.{HeldLocks}
use Rattle.law_tables.specs.Tied.{IsTableOf}
use Rattle.ras_core.specs.Counts.{IsCounted}
use Rattle.ras_core.specs.Journal.{JournalState, StatementKey, is_reserved, reserved_with, reserved_without, reserved_without_all_of}

-- ---- the programs of a workload

-- the greatest identifier that a collection may give out next before a session has begun
abbrev pub FIRST_IDENTIFIERS : ℕ
FIRST_IDENTIFIERS = MAX_FIRST_IDENTIFIER + MAX_STATEMENTS

-- the programs are what the workload's texts say, over the database that its base keeps. That database is valid and gives out
-- small identifiers, the types may be declared, and no session is longer than a session may be. There are no two such
-- programs, since valid databases that are kept alike are the same
pub record AreProgramsOf (workload : Workload) (programs : Programs) : Type 0 where
  pub types : programs.types ≡ workload.types
  pub base : Keeps programs.types (store_kept workload.base) programs.base
  pub scripts : programs.scripts ≡ map statements_in_script workload.scripts
  pub are : ArePrograms programs FIRST_IDENTIFIERS
  pub short : AreShort programs MAX_STATEMENTS

-- the session exists, and this is a place in its script
pub record IsPlaceIn (workload : Workload) (session k : ℕ) : Type 0 where
  pub script : Script
  pub there : nth session workload.scripts ≡ Some script
  pub some : 1 ≤ k
  pub within : k ≤ length script.statements

-- ---- states

-- the workload, the store, the events with the newest first, and the statements for whose closing there is room
pub record CoreState : Type 0 where
  pub workload : Workload
  pub store : Store
  pub history : History
  pub reserved : List StatementKey

-- of a workload, a store and a journal
abbrev pub state_over : Workload → Store → JournalState → CoreState
state_over workload store journal =
    record { workload = workload; store = store; history = reverse journal.events; reserved = journal.reserved }

-- the statement is reserved
abbrev pub IsReservedIn : CoreState → ℕ → ℕ → Type 0
IsReservedIn state t k = IsTrue (is_reserved t k state.reserved)

-- one event more
abbrev pub with_event : Event → CoreState → CoreState
with_event event state = record state { history = event ∷ state.history }

-- one that closes a statement
abbrev pub with_closing : Event → ℕ → ℕ → CoreState → CoreState
with_closing event t k state = record state { history = event ∷ state.history; reserved = reserved_without t k state.reserved }

-- one that ends a transaction
abbrev pub with_end : Event → ℕ → CoreState → CoreState
with_end event t state = record state { history = event ∷ state.history; reserved = reserved_without_all_of t state.reserved }

-- a statement more for whose closing there is room
abbrev pub with_reserved : ℕ → ℕ → CoreState → CoreState
with_reserved t k state = record state { reserved = reserved_with t k state.reserved }

-- a commit: the changes are made, and the transaction has ended
pub record IsCommitted (t number : ℕ) (changes : List Change) (old new : CoreState) : Type 0 where
  pub workload : new.workload ≡ old.workload
  pub kept : (name : LockName) → store_kept new.store name ≡ changed_by_all changes name (store_kept old.store name)
  pub history : new.history ≡ Committed t number ∷ old.history
  pub reserved : new.reserved ≡ reserved_without_all_of t old.reserved

-- nothing has changed: the store keeps the same under each name
pub record IsUnchanged (old new : CoreState) : Type 0 where
  pub workload : new.workload ≡ old.workload
  pub kept : (name : LockName) → store_kept new.store name ≡ store_kept old.store name
  pub history : new.history ≡ old.history
  pub reserved : new.reserved ≡ old.reserved

-- ---- what holds of every state

-- the history is legal, and what is kept is its committed database
pub record IsRight (workload : Workload) (kept : LockName → Option Kept) (history : History) : Type 0 where
  pub legal : (programs : Programs) → AreProgramsOf workload programs → IsLegal programs history
  pub keeps : (programs : Programs) → AreProgramsOf workload programs → Keeps programs.types kept (committed_database programs history)

-- the state is that of a legal run of these programs: so its committed transactions are, one after another, a run of one
-- thread
pub record IsLegalState (programs : Programs) (state : CoreState) : Type 0 where
  pub legal : IsLegal programs state.history
  pub keeps : Keeps programs.types (store_kept state.store) (committed_database programs state.history)
  pub room : HasRoom FIRST_IDENTIFIERS state.history
  pub serializable : IsSerializable programs state.history

-- of all that another live transaction holds locks on, the one history's database shows what the other one's shows
abbrev pub LeavesOthers : Workload → ℕ → History → History → Type 0
LeavesOthers workload t before after =
    (programs : Programs) (other : ℕ) → AreProgramsOf workload programs → other ≢ t → IsTrue (is_live other before)
    → Agrees programs.types (granted_locks (events_of other before)) (committed_database programs before) (committed_database programs after)

-- ---- what a core is made of, for the contracts of this crate alone

pub record IsCoreOver (workload : Workload) (kept : LockName → Option Kept) (table : HeldLocks) (journal : JournalState) (begun committed : ℕ) : Type 0 where
  pub right : IsRight workload kept (reverse journal.events)
  pub locked : IsTableOf (reverse journal.events) table
  pub counted : IsCounted (reverse journal.events) journal.live journal.reserved begun committed
