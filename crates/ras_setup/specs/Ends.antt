-- What stands behind a text's last heading.
use Rattle.std.specs.Prelude.{◌≡◌, ◌≢◌, ℕ, [], drop, Result, Ok, Err}
use Rattle.ras_workload.specs.declared.fault.WorkloadFault.{WorkloadFault}
use Rattle.ras_workload.specs.declared.fault.WorkloadFault.TheVariants.{BadHeading}
use Rattle.spec_commands.specs.Commands.{after_blanks, line_behind}
use Rattle.spec_grammar.specs.Tokens.{Text}

-- blanks alone stand behind the place; else the fault is the line of the first other byte
abbrev pub IsEndedAt : Text → ℕ → Result (Unit {0}) WorkloadFault → Type 0
IsEndedAt text behind (Ok u) = after_blanks (drop behind text) ≡ []
IsEndedAt text behind (Err fault) = (after_blanks (drop behind text) ≢ []) × (fault ≡ BadHeading (line_behind text behind))
