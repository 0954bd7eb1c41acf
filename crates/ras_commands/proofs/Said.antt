-- What is said of a statement, of a text, and of the statements of a session.
use Rattle.std.proofs.Common.{◌≡◌, false, true, List, map, Result, Ok, Err, refl, sym, ◌∙◌, ap, subst}
use Rattle.std.specs.Prelude.{IfOk}
use Rattle.ras_catalog.specs.Outcome.{IsChecked}
use Rattle.ras_catalog.specs.declared.fault.CheckError.TheVariants as errors
use Rattle.ras_commands.specs.Checks.{AreSessionsOf, IsCheckOf, IsFormCheck, check_seen, checks_of, form_check, is_word, script_checks, verdict_check}
use Rattle.ras_commands.specs.declared.checks.StatementCheck.{StatementCheck}
use Rattle.ras_commands.specs.declared.checks.StatementCheck.TheVariants.{Fault, Fine, Syntax}
use Rattle.ras_setup.specs.Found.{IsWorkload}
use Rattle.ras_store.specs.Databases.{Keeps}
use Rattle.ras_store.specs.Store.{store_kept}
use Rattle.ras_store.specs.declared.store.Store.{Store}
use Rattle.ras_store.specs.declared.workload.Workload.{Workload}
use Rattle.ras_syntax.specs.declared.faults.CheckFault.{CheckFault}
use Rattle.ras_syntax.specs.declared.faults.SyntaxFault.{SyntaxFault}
use Rattle.ras_syntax.specs.declared.span.Span.{Span}
use Rattle.ras_syntax.specs.declared.statement.Statement.{Statement}
use Rattle.ras_syntax.specs.declared.statement.StatementForm.{StatementForm}
use Rattle.ras_syntax.specs.declared.statement.StatementForm.TheVariants as forms
use Rattle.ras_syntax.specs.declared.typed.Checked.{Checked}
use Rattle.ras_syntax.specs.declared.types.SetType.{SetType}
use Rattle.spec_expressions.specs.Database.{Database}
use Rattle.spec_grammar.specs.Tokens.{Text}
use Rattle.spec_statements.specs.Machine.{checked_over}
use Rattle.spec_workloads.specs.Setup.{WorkloadValue}
use Rattle.law_grammar.specs.VerdictOf.{verdict_of}

-- a session word is fine
pub word_check : (types : List SetType) (database : Database) (statement : Statement) (form : StatementForm) → is_word form ≡ true
    → form_check types database statement form ≡ Fine
word_check types database statement (forms.Word word) h = refl
word_check types database statement (forms.Select body sources cond) h = absurd cc
word_check types database statement (forms.Insert into body) h = absurd cc
word_check types database statement (forms.Delete source cond) h = absurd cc
word_check types database statement (forms.Update source set axes target body cond) h = absurd cc
word_check types database statement (forms.Create name of) h = absurd cc
word_check types database statement (forms.Drop name) h = absurd cc

-- any other form is checked
pub other_check : (types : List SetType) (database : Database) (statement : Statement) (form : StatementForm) → is_word form ≡ false
    → form_check types database statement form ≡ check_seen (checked_over types statement database)
other_check types database statement (forms.Word word) h = absurd cc
other_check types database statement (forms.Select body sources cond) h = refl
other_check types database statement (forms.Insert into body) h = refl
other_check types database statement (forms.Delete source cond) h = refl
other_check types database statement (forms.Update source set axes target body cond) h = refl
other_check types database statement (forms.Create name of) h = refl
other_check types database statement (forms.Drop name) h = refl

-- ---- a statement

module _ (types : List SetType) (base : Store) (statement : Statement) where
  pub word_said : is_word statement.form ≡ true → IsFormCheck types base statement Fine
  word_said h = record { is = λ database keeps. sym (word_check types database statement statement.form h) }

  pub passes_said : (checked : Checked) → is_word statement.form ≡ false
      → ((database : Database) → Keeps types (store_kept base) database → IsChecked (checked_over types statement database) (Ok checked))
      → IsFormCheck types base statement Fine
  passes_said checked h is = record {
    is = λ database keeps. sym (other_check types database statement statement.form h ∙ ap check_seen (is database keeps).tells);
  }

  pub fault_said : (span : Span) (fault : CheckFault) → is_word statement.form ≡ false
      → ((database : Database) → Keeps types (store_kept base) database → IsChecked (checked_over types statement database) (Err (errors.Fault span fault)))
      → IsFormCheck types base statement (Fault span fault)
  fault_said span fault h is = record {
    is = λ database keeps. sym (other_check types database statement statement.form h ∙ ap check_seen (is database keeps).tells);
  }

-- ---- a text

module _ (types : List SetType) (base : Store) (text : Text) where
  -- of the statement that it is
  pub form_said : {E : Type 0} (statement : Statement) (result : Result StatementCheck E) → verdict_of text ≡ Ok statement
      → IfOk result (IsFormCheck types base statement) → IfOk result (IsCheckOf types base text)
  form_said statement (Ok check) e h = record { is = λ database keeps. h.is database keeps ∙ sym (ap (verdict_check types database) e) }
  form_said statement (Err stop) e h = h

  pub syntax_said : (fault : SyntaxFault) → verdict_of text ≡ Err fault → IsCheckOf types base text (Syntax fault)
  syntax_said fault e = record { is = λ database keeps. sym (ap (verdict_check types database) e) }

-- ---- a workload

pub workload_said : (workload : Workload) (sessions : List (List StatementCheck)) → AreSessionsOf workload.types workload.base workload.scripts sessions
    → (value : WorkloadValue) → IsWorkload value workload → sessions ≡ checks_of value
workload_said workload sessions h value is =
    let keeps : Keeps workload.types (store_kept workload.base) value.base =
    subst (λ (types : List SetType). Keeps types (store_kept workload.base) value.base) (sym is.types) is.base in
    h.are value.base keeps ∙ ap (map (script_checks workload.types value.base)) is.scripts
    ∙ ap (λ (types : List SetType). map (script_checks types value.base) value.scripts) is.types
