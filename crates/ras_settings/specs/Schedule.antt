-- Schedules, as texts: items with `,` between them. An item is a session's number, or that, `x` and how often.
use Rattle.std.specs.Prelude.{◌≡◌, ℕ, ◌+◌, ◌≤◌, ◌<◌, List, ◌∷◌, ◌++◌, map, take, length, sum_by, codes}
use Rattle.std.specs.List.{AllByRecursion, join_by}
use Rattle.std.specs.Fmt.{decimal}
use Rattle.ras_settings.specs.declared.TheConstants.{MAX_SESSION, MAX_STEPS}

abbrev pub ScheduleText : Type 0
ScheduleText = List ℕ

-- a session's number, and how many steps it takes
abbrev pub Turns : Type 0
Turns = List (ℕ × ℕ)

-- an item, as it is written: a session alone takes one step
pub data Item : Type 0 where
  alone : ℕ → Item
  repeated : ℕ → ℕ → Item

abbrev pub turn_of : Item → ℕ × ℕ
turn_of (alone session) = (session, 1)
turn_of (repeated session steps) = (session, steps)

abbrev pub item_text : Item → ScheduleText
item_text (alone session) = decimal session
item_text (repeated session steps) = decimal session ++ codes "x" ++ decimal steps

abbrev pub schedule_text : List Item → ScheduleText
schedule_text items = join_by item_text (codes ",") items

-- a session that may be, and one step or more
abbrev pub IsTurn : ℕ × ℕ → Type 0
IsTurn turn = (1 ≤ turn.0) × (turn.0 ≤ MAX_SESSION) × (1 ≤ turn.1)

abbrev pub steps_of : Turns → ℕ
steps_of turns = sum_by (λ turn. turn.1) turns

-- the text is a schedule, of these turns
pub record IsSchedule (text : ScheduleText) (turns : Turns) : Type 0 where
  pub first : Item
  pub others : List Item
  pub written : text ≡ schedule_text (first ∷ others)
  pub meant : turns ≡ map turn_of (first ∷ others)
  pub in_range : AllByRecursion IsTurn turns
  pub bounded : steps_of turns ≤ MAX_STEPS

-- some schedule begins with the text
abbrev pub GoesOn : ScheduleText → Type 0
GoesOn text = (rest : ScheduleText) × (turns : Turns) × IsSchedule (text ++ rest) turns

-- the text is no schedule, and the place is that of its first byte at which no schedule goes on so, or its length
pub record BreaksAt (text : ScheduleText) (place : ℕ) : Type 0 where
  pub within : place ≤ length text
  pub before : GoesOn (take place text)
  pub broken : place < length text → ¬ GoesOn (take (place + 1) text)
  pub no_schedule : (turns : Turns) → ¬ IsSchedule text turns
