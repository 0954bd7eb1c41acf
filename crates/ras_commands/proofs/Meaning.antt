-- The text of the checks of a workload is the definition's.
use Rattle.std.proofs.Common.{◌≡◌, ℕ, suc, List, [], ◌∷◌, ◌++◌, Result, Ok, Err, map, refl, ap, ◌∙◌}
use Rattle.std.specs.Prelude.{codes, decimal, flat_map}
use Rattle.std.specs.List.{concat}
use Rattle.ras_syntax.specs.declared.faults.SyntaxFault.{SyntaxFault}
use Rattle.ras_syntax.specs.declared.statement.Statement.{Statement}
use Rattle.ras_syntax.specs.declared.statement.StatementForm.{StatementForm}
use Rattle.ras_syntax.specs.declared.statement.StatementForm.TheVariants as forms
use Rattle.ras_syntax.specs.declared.typed.Checked.{Checked}
use Rattle.ras_syntax.specs.declared.types.Script.{Script}
use Rattle.ras_commands.specs.Checks.{check_seen, checks_of, form_check, script_checks, text_check, verdict_check}
use Rattle.ras_commands.specs.Texts.{check_word, checks_text, lines_of, sessions_of}
use Rattle.spec_expressions.specs.Check.{CheckMisfit}
use Rattle.spec_grammar.specs.Tokens.{Text}
use Rattle.spec_statements.specs.Machine.{checked_over}
use Rattle.law_grammar.specs.VerdictOf.{verdict_of}
use Rattle.spec_workloads.specs.CheckText.{check_line, check_lines, check_text, checked_word, form_word, verdict_word}
use Rattle.spec_workloads.specs.Setup.{WorkloadValue}

word_seen : (outcome : Result Checked CheckMisfit) → check_word (check_seen outcome) ≡ checked_word outcome
word_seen (Ok checked) = refl
word_seen (Err fault) = refl

word_form : (value : WorkloadValue) (statement : Statement) (form : StatementForm)
    → check_word (form_check value.types value.base statement form) ≡ form_word value statement form
word_form value statement (forms.Word word) = refl
word_form value statement (forms.Select body sources cond) = word_seen (checked_over value.types statement value.base)
word_form value statement (forms.Insert into body) = word_seen (checked_over value.types statement value.base)
word_form value statement (forms.Delete source cond) = word_seen (checked_over value.types statement value.base)
word_form value statement (forms.Update source set axes target body cond) = word_seen (checked_over value.types statement value.base)
word_form value statement (forms.Create name of) = word_seen (checked_over value.types statement value.base)
word_form value statement (forms.Drop name) = word_seen (checked_over value.types statement value.base)

word_verdict : (value : WorkloadValue) (verdict : Result Statement SyntaxFault)
    → check_word (verdict_check value.types value.base verdict) ≡ verdict_word value verdict
word_verdict value (Err fault) = refl
word_verdict value (Ok statement) = word_form value statement statement.form

line-is : (value : WorkloadValue) (name : Text) (k : ℕ) (text : Text)
    → concat (name ∷ codes " " ∷ decimal k ∷ codes " " ∷ check_word (text_check value.types value.base text) ∷ codes "\n" ∷ []) ≡ check_line value name k text
line-is value name k text =
    ap (λ (word : Text). concat (name ∷ codes " " ∷ decimal k ∷ codes " " ∷ word ∷ codes "\n" ∷ [])) (word_verdict value (verdict_of text))

lines-are : (value : WorkloadValue) (name : Text) (k : ℕ) (texts : List Text)
    → lines_of name k (map (text_check value.types value.base) texts) ≡ check_lines value name k texts
lines-are value name k [] = refl
lines-are value name k (text ∷ texts) =
    ap (λ (t : Text). t ++ lines_of name (suc k) (map (text_check value.types value.base) texts)) (line-is value name k text)
    ∙ ap (λ (t : Text). check_line value name k text ++ t) (lines-are value name (suc k) texts)

sessions-are : (value : WorkloadValue) (scripts : List Script)
    → sessions_of scripts (map (script_checks value.types value.base) scripts)
    ≡ flat_map (λ (script : Script). check_lines value script.name 1 script.statements) scripts
sessions-are value [] = refl
sessions-are value (script ∷ scripts) =
    ap (λ (t : Text). t ++ sessions_of scripts (map (script_checks value.types value.base) scripts)) (lines-are value script.name 1 script.statements)
    ∙ ap (λ (t : Text). check_lines value script.name 1 script.statements ++ t) (sessions-are value scripts)

-- the checks of a workload, written with its scripts
pub checks_text-is : (value : WorkloadValue) → checks_text value.scripts (checks_of value) ≡ check_text value
checks_text-is value = ap (λ (t : Text). codes "#rasq check 1\n" ++ (t ++ codes "#end\n")) (sessions-are value value.scripts)
