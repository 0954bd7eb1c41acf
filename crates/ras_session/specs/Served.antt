-- When a request may be served, and what comes of it.
use Rattle.std.specs.Prelude.{◌≡◌, ◌⊎◌, ℕ, suc, false, List, IsTrue, count_by}
use Rattle.ras_domain.specs.declared.lock.LockName.{LockName}
use Rattle.ras_store.specs.Databases.{rewrites_of}
use Rattle.ras_store.specs.declared.change.Change.{Change}
use Rattle.ras_syntax.specs.declared.event.Event.TheVariants as events
use Rattle.spec_histories.specs.History.{Programs, committed_database, events_of, is_closed, is_live, own_database}
use Rattle.spec_histories.specs.Legal.{IsDueList, MayFollow, is_begun, is_committed}
use Rattle.spec_statements.specs.Locks.{Lock}
use Rattle.spec_views.specs.Sessions.{IsIdle}
use Rattle.spec_views.specs.Work.{RewritesTo}
use Rattle.ras_core.specs.Asking.{IsGrantOf, IsRefusalOf}
use Rattle.ras_core.specs.Journal.{is_reserved}
use Rattle.ras_core.specs.States.{AreProgramsOf, CoreState, IsCommitted, IsPlaceIn, IsReservedIn, IsUnchanged, LeavesOthers, with_closing, with_end, with_event, with_reserved}
use Rattle.ras_session.specs.declared.request.Request.{Request}
use Rattle.ras_session.specs.declared.request.Request.TheVariants.{Begin, Ask, Finish, GiveUp, Commit, Abort, Local, Ended}
use Rattle.ras_session.specs.declared.request.CoreReply.{CoreReply}
use Rattle.ras_session.specs.declared.request.CoreReply.TheVariants.{Begun, Granted, Refused, Finished, Committed, Aborted, Memory, Nothing}

-- the event of the request may follow, for whatever programs the workload's texts are
abbrev pub IsServable : CoreState → Request → Type 0
IsServable state (Begin session k) = IsPlaceIn state.workload session k × IsIdle session state.history
IsServable state (Ask t k p list) =
    IsTrue (is_live t state.history) × ((programs : Programs) → AreProgramsOf state.workload programs → IsDueList programs state.history t k p list)
IsServable state (Finish t k answer) =
    IsTrue (is_live t state.history)
    × ((programs : Programs) → AreProgramsOf state.workload programs → MayFollow programs state.history (events.Answered t k answer))
IsServable state (GiveUp t k) =
    IsTrue (is_live t state.history) × IsReservedIn state t k × (is_closed k (events_of t state.history) ≡ false)
IsServable state (Commit t changes) =
    IsTrue (is_live t state.history)
    × ((programs : Programs) → AreProgramsOf state.workload programs
    → RewritesTo programs.types (rewrites_of changes) (committed_database programs state.history) (own_database programs state.history t))
IsServable state (Abort t) = IsTrue (is_live t state.history)
IsServable state Local = Unit {0}
IsServable state Ended = Unit {0}

-- a list was refused at some lock, which some transaction's lock conflicts with
pub record IsRefused (t k p : ℕ) (list : List Lock) (old new : CoreState) : Type 0 where
  pub lock : LockName
  pub holder : ℕ
  pub refusal : IsRefusalOf t k p list old new lock holder

-- a transaction began, with the next number
pub record HasBegun (session k t : ℕ) (old new : CoreState) : Type 0 where
  pub number : t ≡ suc (count_by is_begun old.history)
  pub state : new ≡ with_event (events.Begun t session k) old

-- a transaction committed, with the next number. What other ones hold locks on is as it was
pub record HasCommitted (t number : ℕ) (changes : List Change) (old new : CoreState) : Type 0 where
  pub next : number ≡ suc (count_by is_committed old.history)
  pub made : IsCommitted t number changes old new
  pub others : LeavesOthers old.workload t old.history new.history

-- the reply tells which event there was. Without memory there was none, but there may be room for the closing of the statement.
-- Where there was room already, memory was wanted for the asking alone, and never for an answer
abbrev pub IsServed : CoreState → CoreState → Request → CoreReply → Type 0
IsServed old new (Begin session k) (Begun t) = HasBegun session k t old new
IsServed old new (Begin session k) Memory = new ≡ old
IsServed old new (Ask t k p list) (Granted piece) = IsGrantOf t k p list (with_reserved t k old) new piece
IsServed old new (Ask t k p list) Refused = IsRefused t k p list (with_reserved t k old) new
IsServed old new (Ask t k p list) Memory = ((is_reserved t k old.reserved ≡ false) × (new ≡ old)) ⊎ (new ≡ with_reserved t k old)
IsServed old new (Finish t k answer) Finished = new ≡ with_closing (events.Answered t k answer) t k (with_reserved t k old)
IsServed old new (Finish t k answer) Memory = (is_reserved t k old.reserved ≡ false) × (new ≡ old)
IsServed old new (GiveUp t k) Nothing = new ≡ with_closing (events.GaveUp t k) t k old
IsServed old new (Commit t changes) (Committed number) = HasCommitted t number changes old new
IsServed old new (Commit t changes) Memory = IsUnchanged old new
IsServed old new (Abort t) Aborted = new ≡ with_end (events.Aborted t) t old
IsServed old new Local Nothing = new ≡ old
IsServed old new Ended Nothing = new ≡ old
IsServed old new request reply = ⊥
