-- The text of the command that checks each statement of each session over the database that the setup leaves.
use Rattle.std.specs.Prelude.{ℕ, suc, List, [], ◌∷◌, ◌++◌, Result, Ok, Err, codes, decimal, flat_map}
use Rattle.std.specs.List.{concat}
use Rattle.ras_syntax.specs.declared.faults.SyntaxFault.{SyntaxFault}
use Rattle.ras_syntax.specs.declared.statement.Statement.{Statement}
use Rattle.ras_syntax.specs.declared.statement.StatementForm.{StatementForm}
use Rattle.ras_syntax.specs.declared.statement.StatementForm.TheVariants as forms
use Rattle.ras_syntax.specs.declared.typed.Checked.{Checked}
use Rattle.spec_expressions.specs.Check.{CheckMisfit}
use Rattle.spec_grammar.specs.Tokens.{Text}
use Rattle.spec_statements.specs.Machine.{checked_over}
use Rattle.law_grammar.specs.VerdictOf.{verdict_of}
use Rattle.spec_workloads.specs.Answers.{check_text_of, syntax_text}
use Rattle.spec_workloads.specs.Setup.{WorkloadValue}

abbrev pub checked_word : Result Checked CheckMisfit → Text
checked_word (Ok checked) = codes "ok"
checked_word (Err fault) = check_text_of fault.0 fault.1

-- a session word is always right
abbrev pub form_word : WorkloadValue → Statement → StatementForm → Text
form_word workload statement (forms.Word word) = codes "ok"
form_word workload statement form = checked_word (checked_over workload.types statement workload.base)

abbrev pub verdict_word : WorkloadValue → Result Statement SyntaxFault → Text
verdict_word workload (Err fault) = syntax_text fault
verdict_word workload (Ok statement) = form_word workload statement statement.form

-- a statement of that number in the session of that name
abbrev pub check_line : WorkloadValue → Text → ℕ → Text → Text
check_line workload name k text =
    concat (name ∷ codes " " ∷ decimal k ∷ codes " " ∷ verdict_word workload (verdict_of text) ∷ codes "\n" ∷ [])

abbrev pub check_lines : WorkloadValue → Text → ℕ → List Text → Text
check_lines workload name k [] = []
check_lines workload name k (text ∷ texts) = check_line workload name k text ++ check_lines workload name (suc k) texts

abbrev pub check_text : WorkloadValue → Text
check_text workload =
    codes "#rasq check 1\n" ++ flat_map (λ script. check_lines workload script.name 1 script.statements) workload.scripts ++ codes "#end\n"
