-- The history stays legal, and what is kept stays its committed database, with each event.
use Rattle.std.proofs.Common.{◌≡◌, ◌≢◌, ℕ, suc, ◌-◌, ◌≤◌, Bool, true, false, nat_le, if◌then◌else◌, List, [], ◌∷◌, map, Option, Some, None, refl, reverse, sym, subst, ap, ◌∙◌, arith}
use Rattle.std.specs.Prelude.{Contains, IsTrue, count_by, option_map, slice_get}
use Rattle.std.proofs.lemmas.List.{length-map}
use Rattle.std.proofs.lemmas.Option.{slice_get-map}
use Rattle.ras_domain.specs.declared.lock.LockName.{LockName}
use Rattle.ras_domain.specs.declared.lock.Mode.{Mode}
use Rattle.ras_syntax.specs.declared.answer.Answer.{Answer}
use Rattle.ras_syntax.specs.declared.event.Event.TheVariants.{Begun, Granted, Refused, Answered, GaveUp, Committed, Aborted}
use Rattle.ras_syntax.specs.declared.limits.TheConstants.{MAX_STATEMENTS}
use Rattle.ras_store.specs.Databases.{Keeps, holdings_of, holding_kept, rewrites_of}
use Rattle.ras_store.specs.Kept.{Kept, changed_by_all}
use Rattle.ras_store.specs.Store.{store_kept}
use Rattle.ras_store.specs.declared.change.Change.{Change}
use Rattle.ras_store.specs.declared.store.Store.{Store}
use Rattle.ras_store.specs.declared.workload.Workload.{Workload}
use Rattle.ras_store.proofs.KeptDatabases.{changes-rewrite}
use Rattle.spec_statements.specs.Locks.{Lock}
use Rattle.spec_histories.specs.History.{History, Programs, committed_database, events_of, is_closed, is_live, nth, own_database}
use Rattle.spec_histories.specs.Legal.{IsDueList, IsFirstBlocked, IsFree, MayFollow, is_begun, is_committed}
use Rattle.spec_histories.specs.Serializable.{HasRoom}
use Rattle.spec_views.specs.Sessions.{IsIdle}
use Rattle.spec_views.specs.Work.{RewritesTo}
use Rattle.spec_workloads.specs.Programs.{statements_in_script}
use Rattle.ras_locks.specs.Tables.{HeldLocks}
use Rattle.law_views.proofs.Room.{has_room}
use Rattle.law_histories.proofs.Serializable.{commit_leaves_others, legal_serial}
use Rattle.ras_core.specs.Journal.{JournalState, StatementKey}
use Rattle.ras_core.specs.States.{AreProgramsOf, CoreState, FIRST_IDENTIFIERS, IsCoreOver, IsPlaceIn, IsRight, IsLegalState, LeavesOthers}

nth-map : {X Y : Type 0} (f : X → Y) (n : ℕ) (xs : List X) (x : X) → nth n xs ≡ Some x → nth n (map f xs) ≡ Some (f x)
nth-map f n xs x is = at (nat_le 1 n) is
  where
    at : (b : Bool) → (if b then slice_get xs (n - 1) else None) ≡ Some x → (if b then slice_get (map f xs) (n - 1) else None) ≡ Some (f x)
    at true is = slice_get-map f xs (n - 1) ∙ ap (option_map f) is
    at false is = absurd cc

module _ (workload : Workload) (kept : LockName → Option Kept) (past : History) (old : IsRight workload kept past) where
  pub right-begun : (t session k : ℕ) → t ≡ suc (count_by is_begun past) → IsPlaceIn workload session k → IsIdle session past
      → IsRight workload kept (Begun t session k ∷ past)
  right-begun t session k next place idle = record {
    legal = λ programs are. (
      (
        next,
        (
          statements_in_script place.script,
          subst (λ scripts. nth session scripts ≡ Some (statements_in_script place.script)) (sym are.scripts)
              (nth-map statements_in_script session workload.scripts place.script place.there),
          place.some,
          simp length-map place.within,
        ),
        idle,
      ),
      old.legal programs are,
    );
    keeps = old.keeps;
  }

  pub right-granted : (t k p : ℕ) (list : List Lock) → ((programs : Programs) → AreProgramsOf workload programs → IsDueList programs past t k p list)
      → ((lock : Lock) → Contains list lock → IsFree past t lock) → IsRight workload kept (Granted t k p list ∷ past)
  right-granted t k p list due free = record { legal = λ programs are. ((due programs are, free), old.legal programs are); keeps = old.keeps }

  pub right-refused : (t k p holder : ℕ) (list : List Lock) (lock : LockName) (mode : Mode)
      → ((programs : Programs) → AreProgramsOf workload programs → IsDueList programs past t k p list)
      → IsFirstBlocked past t list (lock, mode) holder → IsRight workload kept (Refused t k p lock mode holder ∷ past)
  right-refused t k p holder list lock mode due blocked =
      record { legal = λ programs are. ((list, due programs are, blocked), old.legal programs are); keeps = old.keeps }

  pub right-answered : (t k : ℕ) (answer : Answer)
      → ((programs : Programs) → AreProgramsOf workload programs → MayFollow programs past (Answered t k answer))
      → IsRight workload kept (Answered t k answer ∷ past)
  right-answered t k answer may = record { legal = λ programs are. (may programs are, old.legal programs are); keeps = old.keeps }

  pub right-gave_up : (t k : ℕ) → IsTrue (is_live t past) → is_closed k (events_of t past) ≡ false → IsRight workload kept (GaveUp t k ∷ past)
  right-gave_up t k alive not_closed =
      record { legal = λ programs are. ((alive, not_closed), old.legal programs are); keeps = old.keeps }

  pub right-aborted : (t : ℕ) → IsTrue (is_live t past) → IsRight workload kept (Aborted t ∷ past)
  right-aborted t alive = record { legal = λ programs are. (alive, old.legal programs are); keeps = old.keeps }

  pub right-committed : (t number : ℕ) (changes : List Change) (kept' : LockName → Option Kept) → IsTrue (is_live t past)
      → number ≡ suc (count_by is_committed past) → ((name : LockName) → kept' name ≡ changed_by_all changes name (kept name))
      → ((programs : Programs) → AreProgramsOf workload programs
      → RewritesTo programs.types (rewrites_of changes) (committed_database programs past) (own_database programs past t))
      → IsRight workload kept' (Committed t number ∷ past)
  right-committed t number changes kept' alive next changed rewrites = record {
    legal = λ programs are. ((alive, next), old.legal programs are);
    keeps = λ programs are name. ap (λ found. option_map holding_kept found) (changed name)
        ∙ changes-rewrite programs.types changes kept (committed_database programs past) (own_database programs past t) (old.keeps programs are) (rewrites programs are) name;
  }

  -- ---- what follows

  room-of : (programs : Programs) → AreProgramsOf workload programs → count_by is_begun past ≤ 4294967295 → HasRoom FIRST_IDENTIFIERS past
  room-of programs are few = has_room programs MAX_STATEMENTS 4294967295 FIRST_IDENTIFIERS past are.short (old.legal programs are) few (omega arith)

  pub leaves-others : (t number : ℕ) → IsTrue (is_live t past) → number ≡ suc (count_by is_committed past) → count_by is_begun past ≤ 4294967295
      → LeavesOthers workload t past (Committed t number ∷ past)
  leaves-others t number alive next few programs other are differ live =
      commit_leaves_others programs FIRST_IDENTIFIERS past t number other are.are (room-of programs are few) ((alive, next), old.legal programs are) differ live

  run-of : (programs : Programs) (store : Store) (reserved : List StatementKey) → kept ≡ store_kept store → AreProgramsOf workload programs
      → count_by is_begun past ≤ 4294967295 → IsLegalState programs (record { workload = workload; store = store; history = past; reserved = reserved })
  run-of programs store reserved same are few = record {
    legal = old.legal programs are;
    keeps = subst (λ k. Keeps programs.types k (committed_database programs past)) same (old.keeps programs are);
    room = room-of programs are few;
    serializable = legal_serial programs FIRST_IDENTIFIERS past are.are (room-of programs are few) (old.legal programs are);
  }

-- at the start the store keeps what the workload's base keeps
pub right-new : (workload : Workload) (kept : LockName → Option Kept) → ((name : LockName) → kept name ≡ store_kept workload.base name)
    → IsRight workload kept []
right-new workload kept same = record {
  legal = λ programs are. tt;
  keeps = λ programs are name. ap (λ found. option_map holding_kept found) (same name) ∙ are.base name;
}

pub is-run : (state : CoreState) (table : HeldLocks) (journal : JournalState) (begun committed : ℕ)
    → IsCoreOver state.workload (store_kept state.store) table journal begun committed → state.history ≡ reverse journal.events
    → (programs : Programs) → AreProgramsOf state.workload programs → IsLegalState programs state
is-run state table journal begun committed is same programs are =
    run-of state.workload (store_kept state.store) state.history
    (subst (IsRight state.workload (store_kept state.store)) (sym same) is.right) programs state.store state.reserved refl are
    (subst (λ past. count_by is_begun past ≤ 4294967295) (sym same) (omega (arith, is.counted.fit, is.counted.begun_counted)))
