-- What a parse has found of a command's words.
use Rattle.std.specs.Prelude.{◌≡◌, List, ℕ, Option, Some, option_map, codes}
use Rattle.std.specs.Borrow.{Bor}
use Rattle.clap.specs.Words.{first_value}
use Rattle.clap.specs.declared.parser.matches.Found.{Found}
use Rattle.ras_settings.specs.declared.form.OptionName.{OptionName}
use Rattle.ras_settings.specs.declared.values.Values.{Values}
use Rattle.ras_settings.specs.App.{id_of}
use Rattle.ras_settings.specs.Form.{Asked, Given, options_asked_by, given_value}

-- the command's name, and the value of each option that is given
pub record Finds (found : Found) (command : List ℕ) (given : Given) : Type 0 where
  pub name : first_value found (codes "command") ≡ Some command
  pub values : (name : OptionName) → first_value found (id_of name) ≡ given_value name given

abbrev pub text_in : Option (Bor (List ℕ)) → Option (List ℕ)
text_in = option_map (λ text. text.now)

abbrev pub options_asked : Values → Asked
options_asked values = record {
  workers = text_in values.workers;
  schedule = text_in values.schedule;
  seed = text_in values.seed;
  size = text_in values.size;
}

-- the values are those of a command's name and options with their values
pub record AreValues (values : Values) (command : List ℕ) (given : Given) : Type 0 where
  pub name : values.command.now ≡ command
  pub asked : options_asked values ≡ options_asked_by given
