-- How often a session begins a transaction.
use Rattle.std.specs.Prelude.{ℕ, ◌+◌, ◌≤◌, List, [], ◌∷◌, length, map, Result, Ok, Err, All}
use Rattle.ras_syntax.specs.declared.event.Event.{Event}
use Rattle.ras_syntax.specs.declared.event.Event.TheVariants.{Begun}
use Rattle.ras_syntax.specs.declared.faults.SyntaxFault.{SyntaxFault}
use Rattle.ras_syntax.specs.declared.limits.TheConstants.{MAX_RETRIES}
use Rattle.ras_syntax.specs.declared.statement.Statement.{Statement}
use Rattle.ras_syntax.specs.declared.statement.StatementForm.{StatementForm}
use Rattle.ras_syntax.specs.declared.statement.StatementForm.TheVariants as forms
use Rattle.ras_syntax.specs.declared.statement.Word.TheVariants.{Begin}
use Rattle.ras_syntax.specs.declared.types.Script.{Script}
use Rattle.law_grammar.specs.VerdictOf.{verdict_of}
use Rattle.spec_workloads.specs.Setup.{WorkloadValue}
use Rattle.spec_sessions.specs.Walk.{ReadScript, Step, made, quiet}

abbrev pub begun_by : Event → ℕ
begun_by (Begun t session statement) = 1
begun_by event = 0

abbrev pub begins_of : Step → ℕ
begins_of (made event) = begun_by event
begins_of (quiet wanting) = 0

abbrev pub begins_in : List Step → ℕ
begins_in [] = 0
begins_in (step ∷ steps) = begins_of step + begins_in steps

-- a begin is tried again no more often than the grammar lets it
abbrev pub HasFewTriesIn : StatementForm → Type 0
HasFewTriesIn (forms.Word (Begin written)) = written ≤ MAX_RETRIES
HasFewTriesIn form = Unit {0}

-- the text of it, where it is a statement
abbrev pub HasFewTries : Result Statement SyntaxFault → Type 0
HasFewTries (Err fault) = Unit {0}
HasFewTries (Ok statement) = HasFewTriesIn statement.form

-- each script has such statements alone, and no more of them than a number
abbrev pub AreBrief : ℕ → List ReadScript → Type 0
AreBrief longest scripts = All (λ script. All HasFewTries script × (length script ≤ longest)) scripts

-- ---- of a workload

-- each statement of a script, read
abbrev pub read_script : Script → ReadScript
read_script script = map verdict_of script.statements

abbrev pub read_scripts : WorkloadValue → List ReadScript
read_scripts workload = map read_script workload.scripts
