-- A live transaction's work in a history, and what the events of other sessions leave alone.
use Rattle.std.specs.Prelude.{◌≡◌, ℕ, ◌≤◌, List, [], ◌∷◌, ◌++◌, Option, Some, length, IsTrue}
use Rattle.ras_syntax.specs.declared.statement.Statement.{Statement}
use Rattle.spec_histories.specs.History.{History, Programs, answered_statements, begun_at, committed_database, events_of, granted_locks, is_live, nth, owner_of}
use Rattle.spec_statements.specs.ReachLaw.{AreNamedIn}
use Rattle.spec_views.specs.Work.{AllStandFor, IsWork, Work, taken_locks}

-- a live transaction's work: it is that of its answered statements, its pieces are of the committed database, and it took
-- what it was granted locks on
pub record IsWorkOf (programs : Programs) (past : History) (t : ℕ) (work : Work) : Type 0 where
  pub live : IsTrue (is_live t past)
  pub is_work : IsWork programs (answered_statements programs (events_of t past)) work
  pub pieces : AllStandFor programs.types work.pieces (committed_database programs past)
  pub all_granted : AreNamedIn (taken_locks work.pieces) (granted_locks (events_of t past))
  pub all_taken : AreNamedIn (granted_locks (events_of t past)) (taken_locks work.pieces)

-- no event of `more` is of a transaction that began in the session
abbrev pub IsQuiet : ℕ → History → History → Type 0
IsQuiet session [] past = Unit {0}
IsQuiet session (event ∷ more) past =
    ((at : ℕ) → begun_at (events_of (owner_of event) (event ∷ more ++ past)) ≡ Some (session, at) → ⊥) × IsQuiet session more past

-- no live transaction began in the session
abbrev pub IsIdle : ℕ → History → Type 0
IsIdle session past = (t at : ℕ) → IsTrue (is_live t past) → begun_at (events_of t past) ≡ Some (session, at) → ⊥

-- no session has more statements
abbrev pub AreShort : Programs → ℕ → Type 0
AreShort programs longest =
    (session : ℕ) (script : List (Option Statement)) → nth session programs.scripts ≡ Some script → length script ≤ longest
