-- Legal histories: each event may follow those before it.
use Rattle.std.specs.Prelude.{◌≡◌, ◌≢◌, ℕ, suc, ◌<◌, ◌≤◌, Bool, true, false, List, [], ◌∷◌, ◌++◌, length, Option, Some, Contains, IsTrue, count_by}
use Rattle.ras_syntax.specs.declared.statement.Statement.{Statement}
use Rattle.spec_statements.specs.Locks.{Conflicts, Lock}
use Rattle.spec_statements.specs.Reply.{reply_of_answer}
use Rattle.ras_syntax.specs.declared.event.Event.{Event}
use Rattle.ras_syntax.specs.declared.event.Event.TheVariants.{Begun, Granted, Refused, Answered, GaveUp, Committed, Aborted}
use Rattle.spec_histories.specs.History.{Holds, History, Programs, begun_at, has_phase, is_closed, is_data, is_live, is_open, events_of, program_needs, nth, own_database, statement_numbered, program_reply}

abbrev pub is_begun : Event → Bool
is_begun (Begun t session statement) = true
is_begun event = false

abbrev pub is_committed : Event → Bool
is_committed (Committed t number) = true
is_committed event = false

-- ---- what may be asked for

-- a data statement of a live transaction that isn't closed, and no other of its statements is open
pub record IsGoingOn (programs : Programs) (past : History) (t k : ℕ) (statement : Statement) : Type 0 where
  pub live : IsTrue (is_live t past)
  pub text : statement_numbered programs (events_of t past) k ≡ Some statement
  pub data_statement : IsTrue (is_data statement.form)
  pub not_closed : is_closed k (events_of t past) ≡ false
  pub alone : (other : ℕ) → other ≢ k → is_open other (events_of t past) ≡ false

-- the list is that of the statement's phase over the transaction's own database, and is due
pub record IsDueList (programs : Programs) (past : History) (t k p : ℕ) (list : List Lock) : Type 0 where
  pub statement : Statement
  pub going_on : IsGoingOn programs past t k statement
  pub needed : list ≡ program_needs programs statement p (own_database programs past t)
  pub some_locks : list ≢ []
  pub earlier : (q : ℕ) → q < p → program_needs programs statement q (own_database programs past t) ≢ [] → IsTrue (has_phase k q (events_of t past))
  pub not_granted : has_phase k p (events_of t past) ≡ false

-- a transaction holds a lock that conflicts
pub record IsBlockedBy (past : History) (t : ℕ) (lock : Lock) (holder : ℕ) : Type 0 where
  pub held : Lock
  pub holds : Holds past holder held
  pub conflicts : Conflicts t holder lock held

abbrev pub IsFree : History → ℕ → Lock → Type 0
IsFree past t lock = (holder : ℕ) → IsBlockedBy past t lock holder → ⊥

-- the first lock of the list that conflicts, with the least transaction that holds a conflicting one
pub record IsFirstBlocked (past : History) (t : ℕ) (list : List Lock) (lock : Lock) (holder : ℕ) : Type 0 where
  pub before : List Lock
  pub behind : List Lock
  pub parts : list ≡ before ++ lock ∷ behind
  pub free_before : (other : Lock) → Contains before other → IsFree past t other
  pub blocked : IsBlockedBy past t lock holder
  pub least : (other : ℕ) → IsBlockedBy past t lock other → holder ≤ other

-- ---- each event

abbrev pub MayFollow : Programs → History → Event → Type 0
MayFollow programs past (Begun t session k) =
    (t ≡ suc (count_by is_begun past))
    × ((script : List (Option Statement)) × (nth session programs.scripts ≡ Some script) × (1 ≤ k) × (k ≤ length script))
    × ((other at : ℕ) → IsTrue (is_live other past) → begun_at (events_of other past) ≡ Some (session, at) → ⊥)
MayFollow programs past (Granted t k p list) =
    IsDueList programs past t k p list × ((lock : Lock) → Contains list lock → IsFree past t lock)
MayFollow programs past (Refused t k p lock mode holder) =
    (list : List Lock) × IsDueList programs past t k p list × IsFirstBlocked past t list (lock, mode) holder
MayFollow programs past (Answered t k answer) =
    (statement : Statement) × IsGoingOn programs past t k statement
    × ((p : ℕ) → program_needs programs statement p (own_database programs past t) ≢ [] → IsTrue (has_phase k p (events_of t past)))
    × (reply_of_answer answer ≡ program_reply programs statement (own_database programs past t))
MayFollow programs past (GaveUp t k) = IsTrue (is_live t past) × (is_closed k (events_of t past) ≡ false)
MayFollow programs past (Committed t n) = IsTrue (is_live t past) × (n ≡ suc (count_by is_committed past))
MayFollow programs past (Aborted t) = IsTrue (is_live t past)

abbrev pub IsLegal : Programs → History → Type 0
IsLegal programs [] = Unit {0}
IsLegal programs (event ∷ past) = MayFollow programs past event × IsLegal programs past
