-- What is true of every core stays true with each call.
use Rattle.std.proofs.Common.{◌≡◌, ◌≢◌, ℕ, suc, ◌+◌, ◌<◌, ◌≤◌, List, [], ◌∷◌, ◌++◌, Option, refl, reverse, sym, subst, ap, ◌∙◌, arith}
use Rattle.std.specs.Prelude.{Contains, IsTrue, count_by, false, option_map}
use Rattle.std.proofs.lemmas.List.{reverse-append}
use Rattle.ras_domain.specs.declared.lock.LockName.{LockName}
use Rattle.ras_domain.specs.declared.lock.Mode.{Mode}
use Rattle.ras_syntax.specs.declared.answer.Answer.{Answer}
use Rattle.ras_syntax.specs.declared.event.Event.{Event}
use Rattle.ras_syntax.specs.declared.event.Event.TheVariants.{Begun, Granted, Refused, Answered, GaveUp, Committed, Aborted}
use Rattle.ras_store.specs.Databases.{holding_kept, rewrites_of}
use Rattle.ras_store.specs.Kept.{Kept, changed_by_all}
use Rattle.ras_store.specs.Store.{store_kept}
use Rattle.ras_store.specs.declared.change.Change.{Change}
use Rattle.ras_store.specs.declared.store.Store.{Store}
use Rattle.ras_store.specs.declared.workload.Workload.{Workload}
use Rattle.spec_statements.specs.Locks.{Lock}
use Rattle.spec_histories.specs.History.{History, Programs, committed_database, events_of, is_closed, is_live, own_database}
use Rattle.spec_histories.specs.Legal.{IsDueList, IsFirstBlocked, IsFree, MayFollow, is_begun, is_committed}
use Rattle.spec_views.specs.Sessions.{IsIdle}
use Rattle.spec_views.specs.Work.{RewritesTo}
use Rattle.ras_locks.specs.Holders.{without_owner}
use Rattle.ras_locks.specs.Tables.{HeldLocks, IsFirstConflict, IsUncontested, holders_of, with_locks}
use Rattle.law_tables.specs.Tied.{IsTableOf}
use Rattle.law_tables.proofs.Blocks.{empty_table, first_block, free_from, uncontested_from}
use Rattle.law_tables.proofs.Events.{after_begun, after_end, after_grant, after_other}
use Rattle.ras_core.specs.Counts.{IsCounted}
use Rattle.ras_core.specs.Journal.{JournalState, StatementKey, is_reserved, live_without, reserved_with, reserved_without, reserved_without_all_of}
use Rattle.ras_core.specs.States.{AreProgramsOf, CoreState, IsCommitted, IsCoreOver, IsPlaceIn, IsRight, IsLegalState, IsUnchanged, LeavesOthers, state_over}
use Rattle.ras_core.proofs.Counted.{counted-aborted, counted-answered, counted-begun, counted-committed, counted-gave_up, counted-granted, counted-new, counted-refused, counted-reserved}
use Rattle.ras_core.proofs.Righted.{is-run, leaves-others, right-aborted, right-answered, right-begun, right-committed, right-gave_up, right-granted, right-new, right-refused}

-- one event more at the end is the newest
newest : (events : List Event) (event : Event) → reverse (events ++ event ∷ []) ≡ event ∷ reverse events
newest events event = reverse-append events (event ∷ [])

over : (workload : Workload) (kept : LockName → Option Kept) (table : HeldLocks) (events : List Event) (event : Event) (live : List ℕ) (reserved : List StatementKey)
    (begun committed : ℕ) (journal' : JournalState) → journal' ≡ record { events = events ++ event ∷ []; live = live; reserved = reserved }
    → IsRight workload kept (event ∷ reverse events) → IsTableOf (event ∷ reverse events) table → IsCounted (event ∷ reverse events) live reserved begun committed
    → IsCoreOver workload kept table journal' begun committed
over workload kept table events event live reserved begun committed journal' is right locked counted =
    subst (λ j. IsCoreOver workload kept table j begun committed) (sym is) (record {
      right = subst (IsRight workload kept) (sym (newest events event)) right;
      locked = subst (λ past. IsTableOf past table) (sym (newest events event)) locked;
      counted = subst (λ past. IsCounted past live reserved begun committed) (sym (newest events event)) counted;
    })

-- a table with the same holders serves too
same-table : (past : History) (table new : HeldLocks) → IsTableOf past table → ((name : LockName) → holders_of new name ≡ holders_of table name) → IsTableOf past new
same-table past table new tied same = record {
  sound = λ name holder has. tied.sound name holder (subst (λ holders. Contains holders holder) (same name) has);
  complete = λ t lock holds.
      let found = tied.complete t lock holds in
      record {
        mode = found.mode;
        entry = subst (λ holders. Contains holders (record { owner = t; mode = found.mode })) (sym (same lock.0)) found.entry;
        strong = found.strong;
      };
}

pub core-new : (workload : Workload) (kept : LockName → Option Kept) (table : HeldLocks) (journal : JournalState)
    → ((name : LockName) → kept name ≡ store_kept workload.base name) → ((name : LockName) → holders_of table name ≡ [])
    → journal ≡ record { events = []; live = []; reserved = [] } → IsCoreOver workload kept table journal 0 0
core-new workload kept table journal same none is =
    subst (λ j. IsCoreOver workload kept table j 0 0) (sym is)
    (record { right = right-new workload kept same; locked = empty_table table none; counted = counted-new })

module _ (workload : Workload) (store : Store) (table : HeldLocks) (journal : JournalState) (begun committed : ℕ)
    (is : IsCoreOver workload (store_kept store) table journal begun committed) (state : CoreState) (same : state_over workload store journal ≡ state) where
  living : (t : ℕ) → IsTrue (is_live t state.history) → IsTrue (is_live t (reverse journal.events))
  living t alive = subst (λ s. IsTrue (is_live t s.history)) (sym same) alive

  pub core-run : (programs : Programs) → AreProgramsOf state.workload programs → IsLegalState programs state
  core-run = subst (λ s. (programs : Programs) → AreProgramsOf s.workload programs → IsLegalState programs s) same
      (λ programs are. is-run (state_over workload store journal) table journal begun committed is refl programs are)

  pub core-begun : (t session k : ℕ) (journal' : JournalState) → t ≡ begun + 1 → t < 4294967296 → IsPlaceIn state.workload session k → IsIdle session state.history
      → journal' ≡ record { events = journal.events ++ Begun t session k ∷ []; live = journal.live ++ t ∷ []; reserved = journal.reserved }
      → IsCoreOver workload (store_kept store) table journal' t committed
  core-begun t session k journal' next fits place idle is' =
      over workload (store_kept store) table journal.events (Begun t session k) (journal.live ++ t ∷ []) journal.reserved t committed journal' is'
      (right-begun workload (store_kept store) (reverse journal.events) is.right t session k (omega (arith, next, is.counted.begun_counted))
      (subst (λ s. IsPlaceIn s.workload session k) (sym same) place) (subst (λ s. IsIdle session s.history) (sym same) idle))
      (after_begun (reverse journal.events) t session k table table (is.counted.fresh t (omega (arith, next))) is.locked (λ name. refl))
      (counted-begun (reverse journal.events) journal.live journal.reserved begun committed is.counted t session k next fits)

  -- its number
  pub core-number : (t : ℕ) → t ≡ begun + 1 → t ≡ suc (count_by is_begun state.history)
  core-number t next = subst (λ s. t ≡ suc (count_by is_begun s.history)) same (omega (arith, next, is.counted.begun_counted))

  pub core-reserved : (t k : ℕ) (journal' : JournalState)
      → journal' ≡ record { events = journal.events; live = journal.live; reserved = reserved_with t k journal.reserved }
      → IsCoreOver workload (store_kept store) table journal' begun committed
  core-reserved t k journal' is' = subst (λ j. IsCoreOver workload (store_kept store) table j begun committed) (sym is') (record {
    right = is.right;
    locked = is.locked;
    counted = counted-reserved (reverse journal.events) journal.live journal.reserved begun committed is.counted t k;
  })

  pub core-answered : (t k : ℕ) (answer : Answer) (journal' : JournalState) → IsTrue (is_live t state.history)
      → ((programs : Programs) → AreProgramsOf state.workload programs → MayFollow programs state.history (Answered t k answer))
      → journal' ≡ record { events = journal.events ++ Answered t k answer ∷ []; live = journal.live; reserved = reserved_without t k journal.reserved }
      → IsCoreOver workload (store_kept store) table journal' begun committed
  core-answered t k answer journal' alive may is' =
      over workload (store_kept store) table journal.events (Answered t k answer) journal.live (reserved_without t k journal.reserved) begun committed journal' is'
      (right-answered workload (store_kept store) (reverse journal.events) is.right t k answer
      (subst (λ s. (programs : Programs) → AreProgramsOf s.workload programs → MayFollow programs s.history (Answered t k answer)) (sym same) may))
      (after_other (reverse journal.events) (Answered t k answer) table table (λ es. refl) (λ es. refl) is.locked (λ name. refl))
      (counted-answered (reverse journal.events) journal.live journal.reserved begun committed is.counted t k answer (living t alive))

  pub core-gave_up : (t k : ℕ) (journal' : JournalState) → IsTrue (is_live t state.history) → is_closed k (events_of t state.history) ≡ false
      → journal' ≡ record { events = journal.events ++ GaveUp t k ∷ []; live = journal.live; reserved = reserved_without t k journal.reserved }
      → IsCoreOver workload (store_kept store) table journal' begun committed
  core-gave_up t k journal' alive not_closed is' =
      over workload (store_kept store) table journal.events (GaveUp t k) journal.live (reserved_without t k journal.reserved) begun committed journal' is'
      (right-gave_up workload (store_kept store) (reverse journal.events) is.right t k (living t alive)
      (subst (λ s. is_closed k (events_of t s.history) ≡ false) (sym same) not_closed))
      (after_other (reverse journal.events) (GaveUp t k) table table (λ es. refl) (λ es. refl) is.locked (λ name. refl))
      (counted-gave_up (reverse journal.events) journal.live journal.reserved begun committed is.counted t k (living t alive))

  pub core-aborted : (t : ℕ) (table' : HeldLocks) (journal' : JournalState) → IsTrue (is_live t state.history)
      → ((name : LockName) → holders_of table' name ≡ without_owner t (holders_of table name))
      → journal' ≡ record { events = journal.events ++ Aborted t ∷ []; live = live_without t journal.live; reserved = reserved_without_all_of t journal.reserved }
      → IsCoreOver workload (store_kept store) table' journal' begun committed
  core-aborted t table' journal' alive released is' =
      over workload (store_kept store) table' journal.events (Aborted t) (live_without t journal.live) (reserved_without_all_of t journal.reserved) begun committed journal' is'
      (right-aborted workload (store_kept store) (reverse journal.events) is.right t (living t alive))
      (after_end (reverse journal.events) (Aborted t) table table' refl is.locked released)
      (counted-aborted (reverse journal.events) journal.live journal.reserved begun committed is.counted t (living t alive))

  -- ---- asking

  module _ (t k p : ℕ) (list : List Lock) (alive : IsTrue (is_live t state.history))
      (due : (programs : Programs) → AreProgramsOf state.workload programs → IsDueList programs state.history t k p list) where
    due_here : (programs : Programs) → AreProgramsOf workload programs → IsDueList programs (reverse journal.events) t k p list
    due_here = subst (λ s. (programs : Programs) → AreProgramsOf s.workload programs → IsDueList programs s.history t k p list) (sym same) due

    pub core-refused : (lock : LockName) (mode : Mode) (holder : ℕ) (journal' : JournalState) → IsFirstBlocked (reverse journal.events) t list (lock, mode) holder
        → journal' ≡ record {
          events = journal.events ++ Refused t k p lock mode holder ∷ [];
          live = journal.live;
          reserved = reserved_without t k journal.reserved;
        } → IsCoreOver workload (store_kept store) table journal' begun committed
    core-refused lock mode holder journal' blocked is' =
        over workload (store_kept store) table journal.events (Refused t k p lock mode holder) journal.live (reserved_without t k journal.reserved) begun committed journal' is'
        (right-refused workload (store_kept store) (reverse journal.events) is.right t k p holder list lock mode due_here blocked)
        (after_other (reverse journal.events) (Refused t k p lock mode holder) table table (λ es. refl) (λ es. refl) is.locked (λ name. refl))
        (counted-refused (reverse journal.events) journal.live journal.reserved begun committed is.counted t k p holder lock mode (living t alive))

    -- room was made in the table first
    pub core-granted : (ready table' : HeldLocks) (journal' : JournalState) → IsTrue (is_reserved t k state.reserved)
        → ((lock : Lock) → Contains list lock → IsFree state.history t lock) → ((name : LockName) → holders_of ready name ≡ holders_of table name)
        → ((name : LockName) → holders_of table' name ≡ with_locks list t name (holders_of ready name))
        → journal' ≡ record { events = journal.events ++ Granted t k p list ∷ []; live = journal.live; reserved = journal.reserved }
        → IsCoreOver workload (store_kept store) table' journal' begun committed
    core-granted ready table' journal' reserved free made granted is' =
        over workload (store_kept store) table' journal.events (Granted t k p list) journal.live journal.reserved begun committed journal' is'
        (right-granted workload (store_kept store) (reverse journal.events) is.right t k p list due_here
        (subst (λ s. (lock : Lock) → Contains list lock → IsFree s.history t lock) (sym same) free))
        (after_grant (reverse journal.events) t k p list ready table' (living t alive) (same-table (reverse journal.events) table ready is.locked made) granted)
        (counted-granted (reverse journal.events) journal.live journal.reserved begun committed is.counted t k p list (living t alive)
        (subst (λ s. IsTrue (is_reserved t k s.reserved)) (sym same) reserved))

  -- the table's own answers, told of the history
  pub core-blocked : (t : ℕ) (list : List Lock) (place holder : ℕ) → (conflict : IsFirstConflict table list t place holder)
      → IsFirstBlocked (reverse journal.events) t list conflict.lock holder
  core-blocked t list place holder conflict = first_block (reverse journal.events) table t list place holder is.locked conflict

  pub core-free : (t : ℕ) (list : List Lock) → IsUncontested table list t → (lock : Lock) → Contains list lock → IsFree state.history t lock
  core-free t list uncontested =
      subst (λ s. (lock : Lock) → Contains list lock → IsFree s.history t lock) same (free_from (reverse journal.events) table t list is.locked uncontested)

  pub core-uncontested : (t : ℕ) (list : List Lock) (ready : HeldLocks) → ((name : LockName) → holders_of ready name ≡ holders_of table name)
      → ((lock : Lock) → Contains list lock → IsFree state.history t lock) → IsUncontested ready list t
  core-uncontested t list ready made free =
      uncontested_from (reverse journal.events) ready t list (same-table (reverse journal.events) table ready is.locked made)
      (subst (λ s. (lock : Lock) → Contains list lock → IsFree s.history t lock) (sym same) free)

  -- more room in the table is no change
  pub core-table : (ready : HeldLocks) → ((name : LockName) → holders_of ready name ≡ holders_of table name)
      → IsCoreOver workload (store_kept store) ready journal begun committed
  core-table ready made = record { right = is.right; locked = same-table (reverse journal.events) table ready is.locked made; counted = is.counted }

  -- ---- a commit, whose changes were made room for first

  module _ (t : ℕ) (changes : List Change) (ready store' : Store) (table' : HeldLocks) (journal' : JournalState) (alive : IsTrue (is_live t state.history))
      (rewrites : (programs : Programs) → AreProgramsOf state.workload programs
      → RewritesTo programs.types (rewrites_of changes) (committed_database programs state.history) (own_database programs state.history t))
      (prepared : (name : LockName) → store_kept ready name ≡ store_kept store name)
      (applied : (name : LockName) → store_kept store' name ≡ changed_by_all changes name (store_kept ready name))
      (released : (name : LockName) → holders_of table' name ≡ without_owner t (holders_of table name))
      (ended : journal' ≡ record {
        events = journal.events ++ Committed t (committed + 1) ∷ [];
        live = live_without t journal.live;
        reserved = reserved_without_all_of t journal.reserved;
      }) where
    changed : (name : LockName) → store_kept store' name ≡ changed_by_all changes name (store_kept store name)
    changed name = applied name ∙ ap (changed_by_all changes name) (prepared name)

    next : committed + 1 ≡ suc (count_by is_committed (reverse journal.events))
    next = omega (arith, is.counted.committed_counted)

    pub core-committed : IsCoreOver workload (store_kept store') table' journal' begun (committed + 1)
    core-committed =
        over workload (store_kept store') table' journal.events (Committed t (committed + 1)) (live_without t journal.live) (reserved_without_all_of t journal.reserved) begun
        (committed + 1) journal' ended
        (right-committed workload (store_kept store) (reverse journal.events) is.right t (committed + 1) changes (store_kept store') (living t alive) next changed
        (subst (λ s. (programs : Programs) → AreProgramsOf s.workload programs → RewritesTo programs.types (rewrites_of changes) (committed_database programs s.history)
        (own_database programs s.history t)) (sym same) rewrites))
        (after_end (reverse journal.events) (Committed t (committed + 1)) table table' refl is.locked released)
        (counted-committed (reverse journal.events) journal.live journal.reserved begun committed is.counted t (committed + 1) (living t alive))

    history-then : reverse journal'.events ≡ Committed t (committed + 1) ∷ reverse journal.events
    history-then = ap (λ j. reverse j.events) ended ∙ newest journal.events (Committed t (committed + 1))

    pub core-commits : IsCommitted t (committed + 1) changes state (state_over workload store' journal')
    core-commits = subst (λ s. IsCommitted t (committed + 1) changes s (state_over workload store' journal')) same (record {
      workload = refl;
      kept = changed;
      history = history-then;
      reserved = ap (λ j. j.reserved) ended;
    })

    pub core-leaves : LeavesOthers state.workload t state.history (reverse journal'.events)
    core-leaves = subst (λ s. LeavesOthers s.workload t s.history (reverse journal'.events)) same
        (subst (LeavesOthers workload t (reverse journal.events)) (sym history-then)
        (leaves-others workload (store_kept store) (reverse journal.events) is.right t (committed + 1) (living t alive) next
        (omega (arith, is.counted.fit, is.counted.begun_counted))))

    pub core-commit_number : committed + 1 ≡ suc (count_by is_committed state.history)
    core-commit_number = subst (λ s. committed + 1 ≡ suc (count_by is_committed s.history)) same next

  -- where no room could be made, the same is kept
  module _ (ready : Store) (prepared : (name : LockName) → store_kept ready name ≡ store_kept store name) where
    pub core-kept : IsCoreOver workload (store_kept ready) table journal begun committed
    core-kept = record {
      right = record {
        legal = is.right.legal;
        keeps = λ programs are name. ap (λ found. option_map holding_kept found) (prepared name) ∙ is.right.keeps programs are name;
      };
      locked = is.locked;
      counted = is.counted;
    }

    pub core-unchanged : IsUnchanged state (state_over workload ready journal)
    core-unchanged = subst (λ s. IsUnchanged s (state_over workload ready journal)) same
        (record { workload = refl; kept = prepared; history = refl; reserved = refl })
