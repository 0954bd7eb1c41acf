-- Sessions that step turn by turn: the order of their events, whatever steps come later.
use Rattle.std.specs.Prelude.{◌≡◌, ◌≢◌, ◌⊎◌, ℕ, zero, suc, ◌≤◌, Bool as Truth, true, false, List, [], ◌∷◌, ◌++◌, flat_map, length, reverse, slice_index_or, slice_set}
use Rattle.ras_syntax.specs.declared.event.Event.{Event}
use Rattle.spec_sessions.specs.Outcomes.{event_of_first, events_in, paced_events}
use Rattle.spec_sessions.specs.Printable.{is_given_up}
use Rattle.spec_sessions.specs.Walk.{Step}

-- ---- walks with steps behind them

-- walks with their last step first, and steps behind each with the first one first
abbrev pub joined : List (List Step) → List (List Step) → List (List Step)
joined [] mores = []
joined (steps ∷ walks) [] = []
joined (steps ∷ walks) (more ∷ mores) = (reverse steps ++ more) ∷ joined walks mores

-- the steps of one place
abbrev pub steps_at : ℕ → List (List Step) → List Step
steps_at place walks = slice_index_or walks place []

-- a step more there: behind a walk whose last step comes first, or before steps that are to come
abbrev pub with_step : ℕ → Step → List (List Step) → List (List Step)
with_step place step walks = slice_set walks place (step ∷ steps_at place walks)

-- its event, if it has one
abbrev pub event_of_step : Step → List Event
event_of_step step = event_of_first (step ∷ [])

-- no statement was given up by it
abbrev pub IsKeptEvent : Event → Type 0
IsKeptEvent event = is_given_up event ≡ false

-- ---- while the schedule is followed

-- steps that may come later: none of those that have ended
pub record MayCome (count : ℕ) (ended : ℕ → Truth) (mores : List (List Step)) : Type 0 where
  pub all : length mores ≡ count
  pub none : (place : ℕ) → ended place ≡ true → steps_at place mores ≡ []

-- the turns so far give just these events, whatever comes later
pub record IsPacedBy (turns : List ℕ) (count : ℕ) (ended : ℕ → Truth) (walks : List (List Step)) (events : List Event) : Type 0 where
  pub all : length walks ≡ count
  pub goes : (mores : List (List Step)) → MayCome count ended mores → (rest : List ℕ)
      → paced_events (turns ++ rest) (joined walks mores) ≡ events ++ paced_events rest mores

-- one has ended, and of the others the same ones
pub record IsEndedWith (place : ℕ) (ended later : ℕ → Truth) : Type 0 where
  pub here : later place ≡ true
  pub others : (other : ℕ) → other ≢ place → later other ≡ ended other

-- it is a turn of no session, or of one that has ended
abbrev pub IsIdleTurn : ℕ → ℕ → (ℕ → Truth) → Type 0
IsIdleTurn zero count ended = Unit {0}
IsIdleTurn (suc place) count ended = (count ≤ place) ⊎ (ended place ≡ true)

-- ---- behind the schedule, session by session

-- the turns so far give just these events, and then come those of the steps that are left
pub record IsLeftBy (turns : List ℕ) (count : ℕ) (ended : ℕ → Truth) (walks : List (List Step)) (events : List Event) : Type 0 where
  pub all : length walks ≡ count
  pub goes : (mores : List (List Step)) → MayCome count ended mores → paced_events turns (joined walks mores) ≡ events ++ flat_map events_in mores
