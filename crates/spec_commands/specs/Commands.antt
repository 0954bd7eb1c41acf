-- What the commands that read a workload make of a whole text. Behind its last heading stand blanks alone.
use Rattle.std.specs.Prelude.{ℕ, suc, ◌+◌, [], ◌∷◌, drop, take, Result, Ok, Err}
use Rattle.std.specs.List.{prefix_len}
use Rattle.ras_cells.specs.Outcomes.{◌>>=◌}
use Rattle.spec_grammar.specs.Tokens.{Text, is_blank}
use Rattle.spec_workloads.specs.Answers.{workload_refusal}
use Rattle.spec_workloads.specs.CheckText.{check_text}
use Rattle.spec_workloads.specs.Outline.{Outline, OutlineFault, bad_heading, outline_of}
use Rattle.spec_workloads.specs.Sections.{line_feeds}
use Rattle.spec_workloads.specs.Setup.{SetupFault, WorkloadFaultValue, WorkloadValue, no_outline, setup_failed, workload_of_outline}

-- without the blanks that it begins with
abbrev pub after_blanks : Text → Text
after_blanks text = drop (prefix_len is_blank text) text

-- the line of the first byte behind a place that is no blank, counted from 1
abbrev pub line_behind : Text → ℕ → ℕ
line_behind text behind = suc (line_feeds (take (behind + prefix_len is_blank (drop behind text)) text))

-- nothing is left of a text; else the fault is on this line
abbrev pub if_nothing : {A : Type 0} → Text → (line : ℕ) → A → Result A OutlineFault
if_nothing [] line x = Ok x
if_nothing (b ∷ bytes) line x = Err (bad_heading line)

-- the outline of a text that ends with it
abbrev pub ended_outline : Text → Result Outline OutlineFault
ended_outline text = do
  found ← outline_of text
  if_nothing (after_blanks (drop found.1 text)) (line_behind text found.1) found.0

abbrev pub after_setup : Result WorkloadValue (ℕ × SetupFault) → Result WorkloadValue WorkloadFaultValue
after_setup (Ok workload) = Ok workload
after_setup (Err fault) = Err (setup_failed fault.0 fault.1)

abbrev pub with_outline : Result Outline OutlineFault → Result WorkloadValue WorkloadFaultValue
with_outline (Err fault) = Err (no_outline fault)
with_outline (Ok outline) = after_setup (workload_of_outline outline)

-- the workload of a whole text. What stands behind its last heading is judged before the setup is run
abbrev pub whole_workload_of : Text → Result WorkloadValue WorkloadFaultValue
whole_workload_of text = with_outline (ended_outline text)

abbrev pub checks_or_refusal : Result WorkloadValue WorkloadFaultValue → Result Text Text
checks_or_refusal (Ok workload) = Ok (check_text workload)
checks_or_refusal (Err fault) = Err (workload_refusal fault)

-- what the command that checks a workload says of a text: the check of each statement, or the line that refuses the text
unfoldable pub check_command : Text → Result Text Text
check_command text = checks_or_refusal (whole_workload_of text)
