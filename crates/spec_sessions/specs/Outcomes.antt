-- Outcomes of a run: each session's lines, and the history. Which are made by walks of the scripts, and in which order a
-- schedule takes the steps of these.
use Rattle.std.specs.Prelude.{◌≡◌, ℕ, zero, suc, ◌==◌, Bool as Truth, false, if◌then◌else◌, List, [], ◌∷◌, ◌++◌, map, flat_map, replicate, reverse, Option, Some, None, IsTrue}
use Rattle.ras_syntax.specs.declared.event.Event.{Event}
use Rattle.spec_histories.specs.History.{History, begun_at, events_of, owner_of}
use Rattle.spec_sessions.specs.Walk.{Line, ReadScript, Step, Walked, is_over, made, quiet, walk}

-- the lines of each session, and the events, the oldest first
pub record OutcomeValue : Type 0 where
  pub lines : List (List Line)
  pub history : List Event

-- ---- the events of a session

abbrev pub began_in : ℕ → Option (ℕ × ℕ) → Truth
began_in session None = false
began_in session (Some begun) = begun.0 == session

-- those whose transaction had begun in it
abbrev pub session_events : ℕ → History → History
session_events session [] = []
session_events session (event ∷ past) =
    if began_in session (begun_at (events_of (owner_of event) (event ∷ past))) then event ∷ session_events session past
    else session_events session past

-- the events among steps, in their order
abbrev pub events_in : List Step → List Event
events_in [] = []
events_in (made event ∷ steps) = event ∷ events_in steps
events_in (quiet wanting ∷ steps) = events_in steps

-- ---- made

-- the steps, the last one first, are a walk of the session's script with just its events
pub record IsWalkOf (session : ℕ) (script : ReadScript) (past : History) (steps : List Step) (walked : Walked) : Type 0 where
  pub walks : walk session script steps ≡ Some walked
  pub events : events_in steps ≡ session_events session past

-- and it is over, with these lines
pub record IsWholeWalkOf (session : ℕ) (script : ReadScript) (past : History) (lines : List Line) (steps : List Step) : Type 0 where
  pub walked : Walked
  pub is_walk : IsWalkOf session script past steps walked
  pub over : IsTrue (is_over script walked.state)
  pub lines_are : walked.lines ≡ lines

-- each session has such steps, from a number on
abbrev pub AreMadeFrom : ℕ → List ReadScript → List (List Line) → History → List (List Step) → Type 0
AreMadeFrom session [] [] past [] = Unit {0}
AreMadeFrom session (script ∷ scripts) (lines ∷ more) past (steps ∷ walks) =
    IsWholeWalkOf session script past lines steps × AreMadeFrom (suc session) scripts more past walks
AreMadeFrom session scripts lines past walks = ⊥

abbrev pub IsMadeBy : List ReadScript → OutcomeValue → List (List Step) → Type 0
IsMadeBy scripts outcome walks = AreMadeFrom 1 scripts outcome.lines (reverse outcome.history) walks

abbrev pub IsMade : List ReadScript → OutcomeValue → Type 0
IsMade scripts outcome = (walks : List (List Step)) × IsMadeBy scripts outcome walks

-- a history is made so far where each session's events are those of a walk that may go on
abbrev pub AreMadeSoFarFrom : ℕ → List ReadScript → History → Type 0
AreMadeSoFarFrom session [] past = Unit {0}
AreMadeSoFarFrom session (script ∷ scripts) past =
    ((steps : List Step) × (walked : Walked) × IsWalkOf session script past steps walked) × AreMadeSoFarFrom (suc session) scripts past

-- ---- paced

-- a schedule is a list of sessions, each with how often its turn comes; the turns, one by one
abbrev pub turns_of : List (ℕ × ℕ) → List ℕ
turns_of schedule = flat_map (λ item. replicate item.1 item.0) schedule

abbrev pub event_of_first : List Step → List Event
event_of_first [] = []
event_of_first (made event ∷ steps) = event ∷ []
event_of_first (quiet wanting ∷ steps) = []

abbrev pub behind_first : List Step → List Step
behind_first [] = []
behind_first (step ∷ steps) = steps

-- The next step of the session with that many before it: its event, if it has one, and what is left of all. A number of no
-- session, or of one that is through, is skipped
abbrev pub next_event : ℕ → List (List Step) → List Event
next_event before [] = []
next_event zero (steps ∷ walks) = event_of_first steps
next_event (suc before) (steps ∷ walks) = next_event before walks

abbrev pub behind_next : ℕ → List (List Step) → List (List Step)
behind_next before [] = []
behind_next zero (steps ∷ walks) = behind_first steps ∷ walks
behind_next (suc before) (steps ∷ walks) = steps ∷ behind_next before walks

-- the events in the order of the turns; then all steps that are left, session by session. Here walks have their first step first
abbrev pub paced_events : List ℕ → List (List Step) → List Event
paced_events [] walks = flat_map events_in walks
paced_events (zero ∷ turns) walks = paced_events turns walks
paced_events (suc before ∷ turns) walks = next_event before walks ++ paced_events turns (behind_next before walks)

-- the outcome is made, and its events come in the schedule's order
pub record IsPaced (schedule : List (ℕ × ℕ)) (scripts : List ReadScript) (outcome : OutcomeValue) : Type 0 where
  pub walks : List (List Step)
  pub made_by : IsMadeBy scripts outcome walks
  pub order : paced_events (turns_of schedule) (map reverse walks) ≡ outcome.history
