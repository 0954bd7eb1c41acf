-- The command line as one simple command: a required name, and four options that each take one value.
use Rattle.std.specs.Prelude.{List, ℕ, Some, true, codes}
use Rattle.ras_settings.specs.declared.form.OptionName.{OptionName}
use Rattle.ras_settings.specs.declared.form.OptionName.TheVariants.{Workers, Schedule, Seed, Size}
use Rattle.clap.specs.Words.{App, Rule, new_app, new_rule, with_rule}
use Rattle.clap.specs.declared.builder.ArgAction.TheVariants.{Set}

abbrev pub name_rule : Rule
name_rule = record (new_rule (codes "command")) { required = true; action = Some Set }

-- an option and its one value, under the option's name
abbrev pub option_rule : List ℕ → Rule
option_rule name = record (new_rule name) { long = Some name; action = Some Set }

abbrev pub bare_app : App
bare_app = record (new_app (codes "rasq")) { top = record (new_app (codes "rasq")).top { no_binary_name = true; disable_help_flag = true } }

abbrev pub words_app : App
words_app =
    with_rule (with_rule (with_rule (with_rule (with_rule bare_app name_rule) (option_rule (codes "workers"))) (option_rule (codes "schedule")))
    (option_rule (codes "seed"))) (option_rule (codes "size"))

-- the name under which the parse keeps an option's value
abbrev pub id_of : OptionName → List ℕ
id_of Workers = codes "workers"
id_of Schedule = codes "schedule"
id_of Seed = codes "seed"
id_of Size = codes "size"
