-- A schedule as it is read, byte by byte: what is known after a beginning of the text, or that no schedule
-- begins so. That this is so for `IsSchedule` is proved in proofs/Readings.antt.
use Rattle.std.specs.Prelude.{ℕ, ◌+◌, ◌-◌, ◌*◌, ◌==◌, ◌&&◌, [], ◌∷◌, ◌++◌, Option, Some, None, nat_le, nat_lt, option_and_then, option_map, if◌then◌else◌}
use Rattle.ras_settings.specs.declared.TheConstants.{MAX_SESSION, MAX_STEPS}
use Rattle.ras_settings.specs.declared.schedule.Progress.{Progress}
use Rattle.ras_settings.specs.declared.schedule.Progress.TheVariants.{Begun, Session, Marked, Steps}
use Rattle.ras_settings.specs.declared.schedule.Reader.{Reader}
use Rattle.ras_settings.specs.Schedule.{ScheduleText, Turns}

-- the turns of the items that are read, the steps that they leave, and how far the next item is read
pub record Reading : Type 0 where
  pub turns : Turns
  pub left : ℕ
  pub progress : Progress

abbrev pub start : Reading
start = record { turns = []; left = MAX_STEPS; progress = Begun }

abbrev pub reading_of : Reader → Reading
reading_of reader = record { turns = reader.turns.items; left = reader.left; progress = reader.progress }

-- a number with one more digit, if that is one and the number is from 1 to `most`
abbrev pub longer : ℕ → ℕ → ℕ → Option ℕ
longer number byte most =
    let next = 10 * number + (byte - 48) in
    if nat_le 48 byte && (nat_le byte 57 && (nat_le 1 next && nat_le next most)) then Some next else None

abbrev pub grown : ℕ → Progress → ℕ → Option Progress
grown left Begun byte = option_map Session (longer 0 byte MAX_SESSION)
grown left (Session session) byte = if byte == 120 then Some (Marked session) else option_map Session (longer session byte MAX_SESSION)
grown left (Marked session) byte = option_map (Steps session) (longer 0 byte left)
grown left (Steps session steps) byte = option_map (Steps session) (longer steps byte left)

-- the turn of an item that may end here
abbrev pub turn_at : Progress → Option (ℕ × ℕ)
turn_at (Session session) = Some (session, 1)
turn_at (Steps session steps) = Some (session, steps)
turn_at _ = None

-- after a `,`, which needs a step to be left
abbrev pub after_item : Reading → Option (ℕ × ℕ) → Option Reading
after_item r None = None
after_item r (Some turn) = if nat_lt turn.1 r.left
    then Some (record { turns = r.turns ++ turn ∷ []; left = r.left - turn.1; progress = Begun }) else None

abbrev pub stepped : Reading → ℕ → Option Reading
stepped r byte = if byte == 44 then after_item r (turn_at r.progress)
    else option_map (λ progress. record r { progress = progress }) (grown r.left r.progress byte)

abbrev pub read_from : Reading → ScheduleText → Option Reading
read_from r [] = Some r
read_from r (byte ∷ rest) = option_and_then (λ next. read_from next rest) (stepped r byte)

-- the turns where the text ends
abbrev pub turns_at : Reading → Option Turns
turns_at r = option_map (λ turn. r.turns ++ turn ∷ []) (turn_at r.progress)
