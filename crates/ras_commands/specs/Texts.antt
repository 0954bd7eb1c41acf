-- The texts of checks and of refusals.
use Rattle.std.specs.Prelude.{ℕ, suc, List, [], ◌∷◌, ◌++◌, Option, Some, None, codes, decimal}
use Rattle.std.specs.List.{concat}
use Rattle.ras_syntax.specs.declared.types.Script.{Script}
use Rattle.ras_commands.specs.declared.checks.StatementCheck.{StatementCheck}
use Rattle.ras_commands.specs.declared.checks.StatementCheck.TheVariants.{Fine, Syntax, Fault}
use Rattle.ras_setup.specs.Found.{refusal_seen}
use Rattle.ras_setup.specs.declared.fault.WorkloadRefusal.{WorkloadRefusal}
use Rattle.spec_grammar.specs.Tokens.{Text}
use Rattle.spec_workloads.specs.Answers.{check_text_of, syntax_text, workload_refusal}
use Rattle.spec_workloads.specs.Setup.{WorkloadFaultValue}

-- ---- checks

abbrev pub check_word : StatementCheck → Text
check_word Fine = codes "ok"
check_word (Syntax fault) = syntax_text fault
check_word (Fault span fault) = check_text_of span fault

-- of a statement of that number in the session of that name
abbrev pub line_of : Text → ℕ → StatementCheck → Text
line_of name k check = concat (name ∷ codes " " ∷ decimal k ∷ codes " " ∷ check_word check ∷ codes "\n" ∷ [])

abbrev pub lines_of : Text → ℕ → List StatementCheck → Text
lines_of name k [] = []
lines_of name k (check ∷ checks) = line_of name k check ++ lines_of name (suc k) checks

abbrev pub sessions_of : List Script → List (List StatementCheck) → Text
sessions_of [] checks = []
sessions_of (script ∷ scripts) [] = []
sessions_of (script ∷ scripts) (own ∷ others) = lines_of script.name 1 own ++ sessions_of scripts others

-- with the checks of each session
abbrev pub checks_text : List Script → List (List StatementCheck) → Text
checks_text scripts checks = codes "#rasq check 1\n" ++ sessions_of scripts checks ++ codes "#end\n"

-- ---- refusals

abbrev pub refusal_line : Option WorkloadFaultValue → Text
refusal_line None = codes "refused memory\n"
refusal_line (Some fault) = workload_refusal fault

-- the line of a fault of the text, or that of want of memory
abbrev pub refusal_text : WorkloadRefusal → Text
refusal_text refusal = refusal_line (refusal_seen refusal)
