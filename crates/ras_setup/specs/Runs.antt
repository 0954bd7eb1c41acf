-- What the statements of a setup come to, one after another, over the database that a store keeps.
use Rattle.std.specs.Prelude.{◌≡◌, ◌⊎◌, ℕ, ◌+◌, Bool, true, false, IsTrue, List, [], Option, Some, None, Result, Ok, Err}
use Rattle.law_grammar.specs.VerdictOf.{verdict_of}
use Rattle.ras_domain.specs.declared.lock.LockName.{LockName}
use Rattle.ras_parse.specs.declared.fault.ParseFault.{ParseFault}
use Rattle.ras_parse.specs.declared.fault.ParseFault.TheVariants as parse_faults
use Rattle.ras_setup.specs.declared.fault.SetupFault.TheVariants.{Syntax}
use Rattle.ras_setup.specs.declared.fault.Stop.{Stop}
use Rattle.ras_setup.specs.declared.fault.Stop.TheVariants.{Fault, Memory}
use Rattle.ras_setup.specs.declared.fault.WorkloadRefusal.{WorkloadRefusal}
use Rattle.ras_setup.specs.declared.fault.WorkloadRefusal.TheVariants.{Outline, SetupFailed}
use Rattle.ras_setup.specs.Found.{IsWorkload, refusal_seen, setup_fault_seen}
use Rattle.ras_store.specs.Databases.{Keeps, rewrites_of}
use Rattle.ras_store.specs.Kept.{Kept}
use Rattle.ras_store.specs.Store.{store_kept}
use Rattle.ras_store.specs.declared.change.Change.{Change}
use Rattle.ras_store.specs.declared.store.Store.{Store}
use Rattle.ras_store.specs.declared.workload.Workload.{Workload}
use Rattle.ras_syntax.specs.Literals.{statement_numbers_fit}
use Rattle.ras_syntax.specs.declared.statement.Statement.{Statement}
use Rattle.ras_syntax.specs.declared.statement.StatementForm.{StatementForm}
use Rattle.ras_syntax.specs.declared.statement.StatementForm.TheVariants as forms
use Rattle.ras_syntax.specs.declared.types.SetType.{SetType}
use Rattle.ras_workload.specs.declared.fault.WorkloadFault.TheVariants.{Memory as MemoryFault}
use Rattle.spec_expressions.specs.Database.{Database}
use Rattle.spec_expressions.specs.SetTypes.{AreTypes}
use Rattle.spec_grammar.specs.Tokens.{Text}
use Rattle.spec_statements.specs.Locks.{Lock}
use Rattle.spec_statements.specs.Machine.{effect_of, reply_of}
use Rattle.spec_statements.specs.ReachLaw.{Names}
use Rattle.spec_statements.specs.Reply.{Reply}
use Rattle.spec_statements.specs.Validity.{HasIdentifiersUpTo, IsValidFor}
use Rattle.spec_views.specs.Work.{RewritesTo}
use Rattle.spec_workloads.specs.Setup as spec
use Rattle.spec_workloads.specs.Setup.{SetupOutcome, WorkloadFaultValue, WorkloadValue, after_verdict, if_done, setup_failed}

-- ---- faults

-- want of memory is no fault of a statement
abbrev pub stop_seen : Stop → Option spec.SetupFault
stop_seen (Fault fault) = Some (setup_fault_seen fault)
stop_seen Memory = None

-- where a text wasn't read
abbrev pub stop_of_parse : ParseFault → Stop
stop_of_parse (parse_faults.Fault fault) = Fault (Syntax fault)
stop_of_parse parse_faults.Memory = Memory

-- where the statement of a number isn't run
abbrev pub refusal_of : ℕ → Stop → WorkloadRefusal
refusal_of statement (Fault fault) = SetupFailed statement fault
refusal_of statement Memory = Outline MemoryFault

-- a fault is the one that is wanted of the statement, whatever its number
abbrev pub IsWantedStop : (ℕ → SetupOutcome) → Stop → Type 0
IsWantedStop wanted stop = (k : ℕ) (fault : spec.SetupFault) → stop_seen stop ≡ Some fault → wanted k ≡ Err (k, fault)

-- a fault is the one that is wanted of a setup
abbrev pub IsWantedFailure : {A : Type 0} → Result A (ℕ × spec.SetupFault) → WorkloadRefusal → Type 0
IsWantedFailure wanted refusal =
    (fault : WorkloadFaultValue) → refusal_seen refusal ≡ Some fault
    → (failed : ℕ × spec.SetupFault) × (wanted ≡ Err failed) × (fault ≡ setup_failed failed.0 failed.1)

-- ---- texts

abbrev pub is_word : StatementForm → Bool
is_word (forms.Word word) = true
is_word form = false

-- the text is this statement, and no session word
pub record IsStatementOf (text : Text) (statement : Statement) : Type 0 where
  pub verdict : verdict_of text ≡ Ok statement
  pub no_word : is_word statement.form ≡ false
  pub numbers_fit : IsTrue (statement_numbers_fit statement.form)

-- the statement of a text, or the fault that it is in a setup
abbrev pub ReadsText : Text → Result Statement Stop → Type 0
ReadsText text (Ok statement) = IsStatementOf text statement
ReadsText text (Err stop) = (types : List SetType) (database : Database) → IsWantedStop (λ k. after_verdict types k (verdict_of text) database) stop

-- ---- one statement

-- what is kept under the names of a list is taken, and the rest is as it was
pub record Takes (kept : LockName → Option Kept) (list : List Lock) (old new : LockName → Option Kept) : Type 0 where
  pub held : (name : LockName) → Names list name → (old name ≡ None) ⊎ (old name ≡ kept name) → new name ≡ kept name
  pub others : (name : LockName) → (Names list name → ⊥) → new name ≡ old name

-- a reply by which nothing is changed, or the fault that it is in a setup
abbrev pub AnswersBy : Reply → Result (List Change) Stop → Type 0
AnswersBy reply (Ok changes) = (changes ≡ []) × ((k : ℕ) (database : Database) → if_done k reply database ≡ Ok database)
AnswersBy reply (Err stop) = (database : Database) → IsWantedStop (λ k. if_done k reply database) stop

-- the statement is done, and the changes make of the database what it makes of it; or its reply is a fault
abbrev pub IsChangedBy : List SetType → Statement → Database → Result (List Change) Stop → Type 0
IsChangedBy types statement database (Ok changes) =
    RewritesTo types (rewrites_of changes) database (effect_of types statement database)
    × ((k : ℕ) → if_done k (reply_of types statement database) (effect_of types statement database) ≡ Ok (effect_of types statement database))
IsChangedBy types statement database (Err stop) =
    IsWantedStop (λ k. if_done k (reply_of types statement database) (effect_of types statement database)) stop

-- ---- the setup

-- the database is kept, is valid for types that may be declared, and gives out small identifiers
pub record IsBase (types : List SetType) (bound : ℕ) (kept : LockName → Option Kept) (database : Database) : Type 0 where
  pub types_fit : AreTypes types
  pub valid : IsValidFor types database
  pub identifiers : HasIdentifiersUpTo bound database
  pub keeps : Keeps types kept database

-- the wanted database is kept
pub record IsRunTo (types : List SetType) (bound : ℕ) (wanted : ℕ → SetupOutcome) (kept : LockName → Option Kept) : Type 0 where
  pub next : Database
  pub same : (k : ℕ) → wanted k ≡ Ok next
  pub is : IsBase types bound kept next

abbrev pub RunsTo : List SetType → ℕ → (ℕ → SetupOutcome) → Result (Unit {0}) Stop → (LockName → Option Kept) → Type 0
RunsTo types bound wanted (Ok u) kept = IsRunTo types (bound + 1) wanted kept
RunsTo types bound wanted (Err stop) kept = IsWantedStop wanted stop

-- the database of a whole setup is kept, or the fault is its fault
abbrev pub FindsBase : List SetType → SetupOutcome → Result Store WorkloadRefusal → Type 0
FindsBase types wanted (Ok store) = (base : Database) × (wanted ≡ Ok base) × Keeps types (store_kept store) base
FindsBase types wanted (Err refusal) = IsWantedFailure wanted refusal

-- the workload of an outline, or the fault of its setup
abbrev pub SetsUp : Result WorkloadValue (ℕ × spec.SetupFault) → Result Workload WorkloadRefusal → Type 0
SetsUp wanted (Ok workload) = (value : WorkloadValue) × (wanted ≡ Ok value) × IsWorkload value workload
SetsUp wanted (Err refusal) = IsWantedFailure wanted refusal
