-- A session that walks through its script, in a history that all sessions write.
use Rattle.std.specs.Prelude.{◌≡◌, ◌≢◌, ℕ, suc, ◌<◌, ◌≤◌, Bool as Truth, true, false, List, [], ◌++◌, map, Option, Some, None, Ok, IsTrue}
use Rattle.std.specs.List.{list_any}
use Rattle.ras_syntax.specs.declared.event.Event.{Event}
use Rattle.ras_syntax.specs.declared.event.Event.TheVariants.{Granted}
use Rattle.ras_syntax.specs.declared.statement.Statement.{Statement}
use Rattle.spec_expressions.specs.Database.{Database}
use Rattle.spec_histories.specs.History.{History, Programs, begun_at, events_of, grants, has_phase, is_closed, is_data, is_live, is_open, nth, own_database, program_needs, statement_numbered}
use Rattle.spec_workloads.specs.Programs.{statement_if_read}
use Rattle.spec_views.specs.Sessions.{IsWorkOf}
use Rattle.spec_views.specs.Work.{Work}
use Rattle.spec_sessions.specs.Outcomes.{IsWalkOf}
use Rattle.spec_sessions.specs.Walk.{LineReply, ReadScript, SessionPlace, State, Step, Walked, data_statement, ending, first_state, free, inside, item_at, leaving, line_for, live_in, lost, own}

-- its number and script, how far it has walked, the work of its transaction that lives, and the first phase for whose list its
-- next statement has not asked yet. Where no transaction lives, the work says nothing
pub record SessionValue : Type 0 where
  pub number : ℕ
  pub script : ReadScript
  pub walked : Walked
  pub work : Work
  pub phase : ℕ

-- ---- where it is among the events of its transaction

-- A transaction has come to statement k: this one isn't closed, and has a grant or not; it has what it needs, over a database,
-- of the phases before one, and nothing of this phase and the later ones; no other statement is open, and a later one has no
-- event yet
pub record IsAtStatement (programs : Programs) (own_events : History) (database : Database) (k phase : ℕ) (granted : Truth) : Type 0 where
  pub not_closed : is_closed k own_events ≡ false
  pub has_grant : list_any (grants k) own_events ≡ granted
  pub alone : (other : ℕ) → other ≢ k → is_open other own_events ≡ false
  pub behind : (other : ℕ) → k < other → (is_closed other own_events ≡ false) × (list_any (grants other) own_events ≡ false)
  pub earlier : (statement : Statement) (q : ℕ) → statement_numbered programs own_events k ≡ Some statement → q < phase
      → program_needs programs statement q database ≢ [] → IsTrue (has_phase k q own_events)
  pub later : (q : ℕ) → phase ≤ q → has_phase k q own_events ≡ false

abbrev pub IsInPlace : Programs → History → ℕ → ℕ → ℕ → Truth → Type 0
IsInPlace programs past t k phase granted = IsAtStatement programs (events_of t past) (own_database programs past t) k phase granted

-- the transaction that lives at a place has come to the next statement. Only a data statement has a grant, or a transaction of
-- its own
abbrev pub HasComeTo : Programs → History → ReadScript → ℕ → ℕ → SessionPlace → Type 0
HasComeTo programs past script k phase (free attempts) = Unit {0}
HasComeTo programs past script k phase lost = Unit {0}
HasComeTo programs past script k phase (inside opened granted) =
    (granted ≡ true → item_at script k ≡ data_statement) × IsInPlace programs past opened.t k phase granted
HasComeTo programs past script k phase (leaving opened) = Unit {0}
HasComeTo programs past script k phase (own t granted) = (item_at script k ≡ data_statement) × IsInPlace programs past t k phase granted
HasComeTo programs past script k phase (ending t closed) = Unit {0}

-- a transaction that began in a session, with its work
pub record IsOwnOf (programs : Programs) (past : History) (session : ℕ) (work : Work) (t : ℕ) : Type 0 where
  pub at : ℕ
  pub begun : begun_at (events_of t past) ≡ Some (session, at)
  pub is_work : IsWorkOf programs past t work

-- ---- a session in a history

-- the session has walked through its script with just its events of the history; the transaction that lives at its place is
-- the one of the session that lives in the history
pub record IsSessionOf (programs : Programs) (past : History) (session : SessionValue) : Type 0 where
  pub steps : List Step
  pub is_walk : IsWalkOf session.number session.script past steps session.walked
  pub program : nth session.number programs.scripts ≡ Some (map statement_if_read session.script)
  pub lives_there : (t : ℕ) → live_in session.walked.state.place ≡ Some t → IsOwnOf programs past session.number session.work t
  pub lives_only : (t at : ℕ) → IsTrue (is_live t past) → begun_at (events_of t past) ≡ Some (session.number, at)
      → live_in session.walked.state.place ≡ Some t
  pub has_come : HasComeTo programs past session.script session.walked.state.next session.phase session.walked.state.place

-- ---- how it goes on

-- it hasn't begun to walk
abbrev pub new_session : ℕ → ReadScript → Work → SessionValue
new_session number script work =
    record { number = number; script = script; walked = record { state = first_state; lines = [] }; work = work; phase = 1 }

-- behind a grant the next phase comes, and behind each other step a statement's first one
abbrev pub phase_behind : Event → ℕ
phase_behind (Granted t k p list) = suc p
phase_behind event = 1

-- a step further, with this work
abbrev pub session_after : SessionValue → Option LineReply × State → Work → ℕ → SessionValue
session_after session after work phase = record {
  number = session.number;
  script = session.script;
  walked = record { state = after.1; lines = session.walked.lines ++ line_for session.walked.state after };
  work = work;
  phase = phase;
}

-- a phase further, without a step
abbrev pub phase_passed : SessionValue → SessionValue
phase_passed session = record {
  number = session.number;
  script = session.script;
  walked = session.walked;
  work = session.work;
  phase = suc session.phase;
}

-- ---- what it may ask of the core

-- the transaction that lives where a statement of it may be asked for, answered or given up
abbrev pub asking_in : SessionPlace → Option ℕ
asking_in (free attempts) = None
asking_in lost = None
asking_in (inside opened granted) = Some opened.t
asking_in (leaving opened) = None
asking_in (own t granted) = Some t
asking_in (ending t closed) = None

-- a data statement comes next there
pub record IsUnderWay (session : SessionValue) (t : ℕ) (statement : Statement) : Type 0 where
  pub asking : asking_in session.walked.state.place ≡ Some t
  pub text : nth session.walked.state.next session.script ≡ Some (Ok statement)
  pub data_there : IsTrue (is_data statement.form)
