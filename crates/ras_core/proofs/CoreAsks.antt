-- What comes of asking for the locks of a list.
use Rattle.std.proofs.Common.{◌≡◌, ℕ, List, [], ◌∷◌, ◌++◌, Option, Some, None, reverse, sym, subst, ap, ◌∙◌}
use Rattle.std.specs.Prelude.{Contains, IsTrue, slice_get}
use Rattle.std.proofs.lemmas.List.{reverse-append}
use Rattle.ras_domain.specs.declared.lock.LockName.{LockName}
use Rattle.ras_domain.specs.declared.lock.Mode.{Mode}
use Rattle.ras_syntax.specs.declared.event.Event.{Event}
use Rattle.ras_syntax.specs.declared.event.Event.TheVariants.{Granted, Refused}
use Rattle.ras_store.specs.Kept.{Kept}
use Rattle.ras_store.specs.Piece.{piece_kept, piece_over}
use Rattle.ras_store.specs.Store.{store_kept}
use Rattle.ras_store.specs.declared.piece.Piece.{Piece}
use Rattle.ras_store.specs.declared.store.Store.{Store}
use Rattle.ras_store.specs.declared.workload.Workload.{Workload}
use Rattle.spec_statements.specs.Locks.{Lock}
use Rattle.spec_statements.specs.ReachLaw.{Names}
use Rattle.spec_histories.specs.History.{Programs, is_live}
use Rattle.spec_histories.specs.Legal.{IsDueList, IsFirstBlocked, IsFree}
use Rattle.ras_locks.specs.Tables.{HeldLocks, IsFirstConflict, holders_of, with_locks}
use Rattle.ras_core.specs.Asking.{IsGrantOf, IsPieceUnder, IsRefusalOf}
use Rattle.ras_core.specs.Journal.{JournalState, StatementKey, is_reserved, reserved_without}
use Rattle.ras_core.specs.States.{AreProgramsOf, CoreState, IsCoreOver, state_over, with_closing, with_event}
use Rattle.ras_core.proofs.CoreSteps.{core-blocked, core-granted, core-refused}

newest : (events : List Event) (event : Event) → reverse (events ++ event ∷ []) ≡ event ∷ reverse events
newest events event = reverse-append events (event ∷ [])

abbrev value_or : {X : Type 0} → X → Option X → X
value_or x None = x
value_or x (Some y) = y

module _ (workload : Workload) (store : Store) (table : HeldLocks) (journal : JournalState) (begun committed : ℕ)
    (is : IsCoreOver workload (store_kept store) table journal begun committed) (state : CoreState) (same : state_over workload store journal ≡ state)
    (t k p : ℕ) (list : List Lock) (alive : IsTrue (is_live t state.history))
    (due : (programs : Programs) → AreProgramsOf state.workload programs → IsDueList programs state.history t k p list) where
  -- ---- granted

  module _ (journal' : JournalState) (granted : List Lock) (copied : granted ≡ list)
      (added : journal' ≡ record { events = journal.events ++ Granted t k p granted ∷ []; live = journal.live; reserved = journal.reserved })
      (free : (lock : Lock) → Contains list lock → IsFree state.history t lock) where
    added-list : journal' ≡ record { events = journal.events ++ Granted t k p list ∷ []; live = journal.live; reserved = journal.reserved }
    added-list = subst (λ l. journal' ≡ record { events = journal.events ++ Granted t k p l ∷ []; live = journal.live; reserved = journal.reserved }) copied added

    pub asked-granted : (ready table' : HeldLocks) → IsTrue (is_reserved t k state.reserved) → ((name : LockName) → holders_of ready name ≡ holders_of table name)
        → ((name : LockName) → holders_of table' name ≡ with_locks list t name (holders_of ready name))
        → IsCoreOver workload (store_kept store) table' journal' begun committed
    asked-granted ready table' reserved made holding =
        core-granted workload store table journal begun committed is state same t k p list alive due ready table' journal' reserved free made holding added-list

    pub asked-grant : (piece : Piece) → ((name : LockName) → Names list name → piece_kept piece name ≡ store_kept store name)
        → ((name : LockName) (before : Option Kept) → ¬ Names list name → piece_over piece name before ≡ before)
        → IsGrantOf t k p list state (state_over workload store journal') piece
    asked-grant piece held others = record {
      state = ap (state_over workload store) added-list
          ∙ ap (λ past. record { workload = workload; store = store; history = past; reserved = journal.reserved }) (newest journal.events (Granted t k p list))
          ∙ ap (with_event (Granted t k p list)) same;
      free = free;
      piece_under = subst (λ s. IsPieceUnder s.store list piece) same (record { held = held; others = others });
    }

  -- ---- refused

  module _ (place holder : ℕ) (conflict : IsFirstConflict table list t place holder) (blocked recorded : LockName) (mode : Mode)
      (at : slice_get list place ≡ Some (blocked, mode)) (copied : recorded ≡ blocked) (journal' : JournalState)
      (closed : journal' ≡ record {
        events = journal.events ++ Refused t k p recorded mode holder ∷ [];
        live = journal.live;
        reserved = reserved_without t k journal.reserved;
      }) where
    first : IsFirstBlocked (reverse journal.events) t list (blocked, mode) holder
    first = subst (λ lock. IsFirstBlocked (reverse journal.events) t list lock holder) (ap (value_or conflict.lock) (sym conflict.found ∙ at))
        (core-blocked workload store table journal begun committed is state same t list place holder conflict)

    pub asked-refused : IsCoreOver workload (store_kept store) table journal' begun committed
    asked-refused =
        core-refused workload store table journal begun committed is state same t k p list alive due recorded mode holder journal'
        (subst (λ name. IsFirstBlocked (reverse journal.events) t list (name, mode) holder) (sym copied) first) closed

    pub asked-refusal : (lock : LockName) → lock ≡ blocked → IsRefusalOf t k p list state (state_over workload store journal') lock holder
    asked-refusal lock told = record {
      mode = mode;
      state = ap (state_over workload store) closed
          ∙ ap (λ past. record { workload = workload; store = store; history = past; reserved = reserved_without t k journal.reserved })
          (newest journal.events (Refused t k p recorded mode holder))
          ∙ ap (λ name. with_closing (Refused t k p name mode holder) t k (state_over workload store journal)) (copied ∙ sym told)
          ∙ ap (with_closing (Refused t k p lock mode holder) t k) same;
      blocked = subst (λ s. IsFirstBlocked s.history t list (lock, mode) holder) same
          (subst (λ name. IsFirstBlocked (reverse journal.events) t list (name, mode) holder) (sym told) first);
    }
