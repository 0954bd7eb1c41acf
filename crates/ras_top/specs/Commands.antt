-- What words ask for, of the commands that are built.
use Rattle.std.specs.Prelude.{◌≡◌, ℕ, List, Some, Result, Ok, Err}
use Rattle.ras_settings.specs.Settings.{Mean, Outcome}
use Rattle.ras_settings.specs.declared.settings.Settings.{Settings}
use Rattle.ras_settings.specs.declared.settings.Settings.TheVariants as settings
use Rattle.ras_settings.specs.declared.settings.WordsFault.{WordsFault}
use Rattle.ras_settings.specs.declared.settings.WordsFault.TheVariants.{Refused}
use Rattle.ras_top.specs.declared.command.Command.{Command}
use Rattle.ras_top.specs.declared.command.Command.TheVariants.{Check, Run}

-- a command, or why there is none
abbrev pub Asked : Type 0
Asked = Result Command WordsFault

-- a check, and a run by a schedule. Others aren't built
abbrev pub command_of : Settings → Asked
command_of settings.Check = Ok Check
command_of (settings.Run workers (Some schedule)) = Ok (Run workers schedule)
command_of _ = Err Refused

abbrev pub asked_by : Outcome → Asked
asked_by (Ok settings) = command_of settings
asked_by (Err fault) = Err fault

-- the words ask for this command, or have this fault
pub record AskFor (words : List (List ℕ)) (asked : Asked) : Type 0 where
  pub outcome : Outcome
  pub meant : Mean words outcome
  pub same : asked_by outcome ≡ asked
