-- The workload of an outline: its setup is run from the empty database, and each of its statements has to be done.
use Rattle.std.specs.Prelude.{ℕ, suc, List, [], ◌∷◌, Result, Ok, Err}
use Rattle.ras_cells.specs.Outcomes.{◌>>=◌}
use Rattle.ras_syntax.specs.declared.faults.SyntaxFault.{SyntaxFault}
use Rattle.ras_syntax.specs.declared.statement.Statement.{Statement}
use Rattle.ras_syntax.specs.declared.statement.StatementForm.{StatementForm}
use Rattle.ras_syntax.specs.declared.statement.StatementForm.TheVariants as forms
use Rattle.ras_syntax.specs.declared.types.Script.{Script}
use Rattle.ras_syntax.specs.declared.types.SetType.{SetType}
use Rattle.spec_expressions.specs.Database.{Database}
use Rattle.spec_grammar.specs.Tokens.{Text}
use Rattle.spec_statements.specs.Machine.{effect_of, reply_of}
use Rattle.spec_statements.specs.Reply.{Reply, done}
use Rattle.law_grammar.specs.VerdictOf.{verdict_of}
use Rattle.spec_workloads.specs.Outline.{Outline, OutlineFault, outline_of}

-- why a setup fails at a statement
pub data SetupFault : Type 0 where
  unread : SyntaxFault → SetupFault
  -- a session word
  a_word : SetupFault
  -- any reply but that it is done
  replied : Reply → SetupFault

-- the number of the first statement that isn't done, and why
abbrev pub SetupOutcome : Type 0
SetupOutcome = Result Database (ℕ × SetupFault)

abbrev pub if_done : ℕ → Reply → Database → SetupOutcome
if_done k (done n) database = Ok database
if_done k reply database = Err (k, replied reply)

abbrev pub after_form : List SetType → ℕ → Statement → StatementForm → Database → SetupOutcome
after_form types k statement (forms.Word word) database = Err (k, a_word)
after_form types k statement form database = if_done k (reply_of types statement database) (effect_of types statement database)

abbrev pub after_verdict : List SetType → ℕ → Result Statement SyntaxFault → Database → SetupOutcome
after_verdict types k (Err fault) database = Err (k, unread fault)
after_verdict types k (Ok statement) database = after_form types k statement statement.form database

-- the statements are run in order, counted from a number on
abbrev pub set_up : List SetType → ℕ → List Text → Database → SetupOutcome
set_up types k [] database = Ok database
set_up types k (text ∷ texts) database = do
  next ← after_verdict types k (verdict_of text) database
  set_up types (suc k) texts next

-- ---- workloads

-- types, the database at the start, and of each session its name and the texts of its statements
pub record WorkloadValue : Type 0 where
  pub types : List SetType
  pub base : Database
  pub scripts : List Script

abbrev pub workload_over : Outline → Database → WorkloadValue
workload_over outline base = record { types = outline.types; base = base; scripts = outline.scripts }

abbrev pub workload_of_outline : Outline → Result WorkloadValue (ℕ × SetupFault)
workload_of_outline outline = do
  base ← set_up outline.types 1 outline.setup []
  Ok (workload_over outline base)

-- why a text is no workload
pub data WorkloadFaultValue : Type 0 where
  no_outline : OutlineFault → WorkloadFaultValue
  setup_failed : ℕ → SetupFault → WorkloadFaultValue

abbrev pub workload_with_place : ℕ → Result WorkloadValue (ℕ × SetupFault) → Result (WorkloadValue × ℕ) WorkloadFaultValue
workload_with_place behind (Ok workload) = Ok (workload, behind)
workload_with_place behind (Err fault) = Err (setup_failed fault.0 fault.1)

abbrev pub with_setup : Result (Outline × ℕ) OutlineFault → Result (WorkloadValue × ℕ) WorkloadFaultValue
with_setup (Err fault) = Err (no_outline fault)
with_setup (Ok found) = workload_with_place found.1 (workload_of_outline found.0)

-- the workload of a text, and the place behind the line of its last heading
abbrev pub workload_of : Text → Result (WorkloadValue × ℕ) WorkloadFaultValue
workload_of text = with_setup (outline_of text)
