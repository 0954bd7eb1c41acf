-- What words mean: settings, or the first fault in the order form, numbers, command, options, schedule.
use Rattle.std.specs.Prelude.{◌≡◌, ◌≢◌, ℕ, ◌≤◌, ◌⊎◌, Bool, true, false, ◌==◌, ◌&&◌, not, List, ◌∷◌, Option, Some, None, Result, Ok, Err, IsSome, codes}
use Rattle.std.specs.Fmt.{decimal}
use Rattle.ras_settings.specs.declared.TheConstants.{MAX_WORKERS, USUAL_WORKERS, MAX_SEED, USUAL_SEED, MAX_SIZE, USUAL_SIZE}
use Rattle.ras_settings.specs.declared.command.CommandName.{CommandName}
use Rattle.ras_settings.specs.declared.command.CommandName.TheVariants as command
use Rattle.ras_settings.specs.declared.form.OptionName.{OptionName}
use Rattle.ras_settings.specs.declared.form.OptionName.TheVariants.{Workers, Schedule, Seed, Size}
use Rattle.ras_settings.specs.declared.number.Numbers.{Numbers}
use Rattle.ras_settings.specs.declared.settings.Settings.{Settings}
use Rattle.ras_settings.specs.declared.settings.Settings.TheVariants.{Run, Check, Plan, Gen, Sample, Audit}
use Rattle.ras_settings.specs.declared.settings.WordsFault.{WordsFault}
use Rattle.ras_settings.specs.declared.settings.WordsFault.TheVariants.{Refused, UnknownCommand, OptionNotOfCommand, BadSchedule, Memory}
use Rattle.ras_settings.specs.Form.{Asked, Given, HasForm, HasSomeForm, options_asked_by, asked_value}
use Rattle.ras_settings.specs.Schedule.{BreaksAt, IsSchedule, ScheduleText, Turns}

abbrev pub Outcome : Type 0
Outcome = Result Settings WordsFault

-- ---- numbers

-- the text writes a number of this range, in decimal digits with no sign and no leading zero
pub record IsNumberIn (least most : ℕ) (text : ScheduleText) (n : ℕ) : Type 0 where
  pub written : text ≡ decimal n
  pub at_least : least ≤ n
  pub at_most : n ≤ most

-- among the texts that an unsigned number is read from, those with no sign and no leading zero
abbrev pub is_plain : ScheduleText → Bool
is_plain (first ∷ _ ∷ _) = not (first == 43) && not (first == 48)
is_plain _ = true

-- the number of an option's value, or the usual one where the option isn't given
abbrev pub HasOptionNumber : ℕ → ℕ → ℕ → Option ScheduleText → ℕ → Type 0
HasOptionNumber least most usual None n = n ≡ usual
HasOptionNumber least most usual (Some text) n = IsNumberIn least most text n

-- the option is given with a value that is no number of the range
abbrev pub LacksNumber : ℕ → ℕ → Option ScheduleText → Type 0
LacksNumber least most None = ⊥
LacksNumber least most (Some text) = (n : ℕ) → ¬ IsNumberIn least most text n

pub record HasAskedNumbers (asked : Asked) (numbers : Numbers) : Type 0 where
  pub workers : HasOptionNumber 1 MAX_WORKERS USUAL_WORKERS asked.workers numbers.workers
  pub seed : HasOptionNumber 0 MAX_SEED USUAL_SEED asked.seed numbers.seed
  pub size : HasOptionNumber 1 MAX_SIZE USUAL_SIZE asked.size numbers.size

-- a value is no number where it must be one
abbrev pub LacksNumbers : Asked → Type 0
LacksNumbers asked = LacksNumber 1 MAX_WORKERS asked.workers ⊎ (LacksNumber 0 MAX_SEED asked.seed ⊎ LacksNumber 1 MAX_SIZE asked.size)

-- ---- commands and their options

abbrev pub command_word : CommandName → ScheduleText
command_word command.Run = codes "run"
command_word command.Check = codes "check"
command_word command.Plan = codes "plan"
command_word command.Gen = codes "gen"
command_word command.Sample = codes "sample"
command_word command.Audit = codes "audit"

-- whether the command takes the option
abbrev pub takes_option : CommandName → OptionName → Bool
takes_option command.Run Workers = true
takes_option command.Run Schedule = true
takes_option command.Gen Seed = true
takes_option command.Gen Size = true
takes_option command.Sample Seed = true
takes_option command.Sample Size = true
takes_option _ _ = false

abbrev pub FitsCommand : CommandName → Asked → Type 0
FitsCommand name asked = (option : OptionName) → IsSome (asked_value option asked) → takes_option name option ≡ true

abbrev pub HasOtherOption : CommandName → Asked → Type 0
HasOtherOption name asked = (option : OptionName) × IsSome (asked_value option asked) × (takes_option name option ≡ false)

abbrev pub settings_of : CommandName → Numbers → Option Turns → Settings
settings_of command.Run numbers schedule = Run numbers.workers schedule
settings_of command.Check numbers schedule = Check
settings_of command.Plan numbers schedule = Plan
settings_of command.Gen numbers schedule = Gen numbers.seed numbers.size
settings_of command.Sample numbers schedule = Sample numbers.seed numbers.size
settings_of command.Audit numbers schedule = Audit

-- ---- one after another

-- the schedule is the last to be judged
abbrev pub ScheduleMeans : CommandName → Numbers → Option ScheduleText → Outcome → Type 0
ScheduleMeans name numbers None outcome = outcome ≡ Ok (settings_of name numbers None)
ScheduleMeans name numbers (Some text) outcome =
    ((turns : Turns) × IsSchedule text turns × (outcome ≡ Ok (settings_of name numbers (Some turns))))
    ⊎ ((place : ℕ) × BreaksAt text place × (outcome ≡ Err (BadSchedule place)))

-- then come the command's own options
abbrev pub OptionsMean : CommandName → Asked → Numbers → Outcome → Type 0
OptionsMean name asked numbers outcome = (HasOtherOption name asked × (outcome ≡ Err OptionNotOfCommand))
    ⊎ (FitsCommand name asked × ScheduleMeans name numbers asked.schedule outcome)

-- before them the command's name
abbrev pub CommandMeans : ScheduleText → Asked → Numbers → Outcome → Type 0
CommandMeans word asked numbers outcome = (((name : CommandName) → word ≢ command_word name) × (outcome ≡ Err UnknownCommand))
    ⊎ ((name : CommandName) × (word ≡ command_word name) × OptionsMean name asked numbers outcome)

-- before it the numbers
abbrev pub NumbersMean : ScheduleText → Asked → Outcome → Type 0
NumbersMean word asked outcome = (LacksNumbers asked × (outcome ≡ Err Refused))
    ⊎ ((numbers : Numbers) × HasAskedNumbers asked numbers × CommandMeans word asked numbers outcome)

-- what the words mean: their form is judged first
abbrev pub Mean : List ScheduleText → Outcome → Type 0
Mean words outcome = ((¬ HasSomeForm words) × (outcome ≡ Err Refused))
    ⊎ ((word : ScheduleText) × (given : Given) × HasForm words word given × NumbersMean word (options_asked_by given) outcome)

-- a schedule's text alone. Want of memory may come at any point
abbrev pub IsScheduleFault : ScheduleText → WordsFault → Type 0
IsScheduleFault text (BadSchedule place) = BreaksAt text place
IsScheduleFault text Memory = Unit {0}
IsScheduleFault text _ = ⊥
