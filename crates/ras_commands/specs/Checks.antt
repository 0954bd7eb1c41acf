-- What the check says of each statement of a workload.
use Rattle.std.specs.Prelude.{◌≡◌, Bool, true, false, List, map, Result, Ok, Err}
use Rattle.ras_syntax.specs.declared.faults.SyntaxFault.{SyntaxFault}
use Rattle.ras_syntax.specs.declared.statement.Statement.{Statement}
use Rattle.ras_syntax.specs.declared.statement.StatementForm.{StatementForm}
use Rattle.ras_syntax.specs.declared.statement.StatementForm.TheVariants as forms
use Rattle.ras_syntax.specs.declared.typed.Checked.{Checked}
use Rattle.ras_syntax.specs.declared.types.Script.{Script}
use Rattle.ras_syntax.specs.declared.types.SetType.{SetType}
use Rattle.ras_commands.specs.declared.checks.StatementCheck.{StatementCheck}
use Rattle.ras_commands.specs.declared.checks.StatementCheck.TheVariants.{Fine, Syntax, Fault}
use Rattle.ras_store.specs.Databases.{Keeps}
use Rattle.ras_store.specs.Store.{store_kept}
use Rattle.ras_store.specs.declared.store.Store.{Store}
use Rattle.spec_expressions.specs.Check.{CheckMisfit}
use Rattle.spec_expressions.specs.Database.{Database}
use Rattle.spec_grammar.specs.Tokens.{Text}
use Rattle.spec_statements.specs.Machine.{checked_over}
use Rattle.law_grammar.specs.VerdictOf.{verdict_of}
use Rattle.spec_workloads.specs.Setup.{WorkloadValue}

abbrev pub is_word : StatementForm → Bool
is_word (forms.Word word) = true
is_word form = false

abbrev pub check_seen : Result Checked CheckMisfit → StatementCheck
check_seen (Ok checked) = Fine
check_seen (Err fault) = Fault fault.0 fault.1

-- a session word is always right
abbrev pub form_check : List SetType → Database → Statement → StatementForm → StatementCheck
form_check types database statement (forms.Word word) = Fine
form_check types database statement form = check_seen (checked_over types statement database)

abbrev pub verdict_check : List SetType → Database → Result Statement SyntaxFault → StatementCheck
verdict_check types database (Err fault) = Syntax fault
verdict_check types database (Ok statement) = form_check types database statement statement.form

-- of a text
abbrev pub text_check : List SetType → Database → Text → StatementCheck
text_check types database text = verdict_check types database (verdict_of text)

abbrev pub script_checks : List SetType → Database → Script → List StatementCheck
script_checks types database script = map (text_check types database) script.statements

-- of each statement of each session, over the base
abbrev pub checks_of : WorkloadValue → List (List StatementCheck)
checks_of value = map (script_checks value.types value.base) value.scripts

-- ---- over each database that a store keeps

pub record IsFormCheck (types : List SetType) (base : Store) (statement : Statement) (check : StatementCheck) : Type 0 where
  pub is : (database : Database) → Keeps types (store_kept base) database → check ≡ form_check types database statement statement.form

pub record IsCheckOf (types : List SetType) (base : Store) (text : Text) (check : StatementCheck) : Type 0 where
  pub is : (database : Database) → Keeps types (store_kept base) database → check ≡ text_check types database text

pub record AreChecksOf (types : List SetType) (base : Store) (texts : List Text) (checks : List StatementCheck) : Type 0 where
  pub are : (database : Database) → Keeps types (store_kept base) database → checks ≡ map (text_check types database) texts

pub record AreSessionsOf (types : List SetType) (base : Store) (scripts : List Script) (sessions : List (List StatementCheck)) : Type 0 where
  pub are : (database : Database) → Keeps types (store_kept base) database → sessions ≡ map (script_checks types database) scripts
