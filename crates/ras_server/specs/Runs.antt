-- What a run of a workload's sessions gives.
use Rattle.std.specs.Prelude.{ℕ, List, map, reverse}
use Rattle.ras_store.specs.Databases.{Keeps}
use Rattle.ras_store.specs.Store.{store_kept}
use Rattle.ras_store.specs.declared.store.Store.{Store}
use Rattle.ras_store.specs.declared.workload.Workload.{Workload}
use Rattle.spec_histories.specs.History.{Programs, committed_database}
use Rattle.spec_histories.specs.Legal.{IsLegal}
use Rattle.spec_histories.specs.Serializable.{IsSerializable}
use Rattle.spec_sessions.specs.Begins.{read_script}
use Rattle.spec_sessions.specs.Outcomes.{IsPaced, OutcomeValue}
use Rattle.spec_sessions.specs.Printable.{IsGood, IsUnbroken}
use Rattle.spec_sessions.specs.Walk.{ReadScript}
use Rattle.ras_core.specs.States.{AreProgramsOf}

-- the workload's texts are programs
pub record HasPrograms (workload : Workload) : Type 0 where
  pub programs : Programs
  pub are : AreProgramsOf workload programs

-- each statement of each session, read
abbrev pub scripts_of : Workload → List ReadScript
scripts_of workload = map read_script workload.scripts

-- The history is legal, and its committed transactions are a run of one thread. The outcome is made by walks of the scripts,
-- whose events come in the schedule's order, and nothing in it tells of want of memory
pub record IsRunOf (programs : Programs) (scripts : List ReadScript) (schedule : List (ℕ × ℕ)) (outcome : OutcomeValue) : Type 0 where
  pub legal : IsLegal programs (reverse outcome.history)
  pub serializable : IsSerializable programs (reverse outcome.history)
  pub good : IsGood programs scripts outcome
  pub paced : IsPaced schedule scripts outcome
  pub unbroken : IsUnbroken outcome

-- the same, with the database that it leaves
pub record IsRunTo (programs : Programs) (scripts : List ReadScript) (schedule : List (ℕ × ℕ)) (outcome : OutcomeValue) (store : Store) : Type 0 where
  pub run : IsRunOf programs scripts schedule outcome
  pub keeps : Keeps programs.types (store_kept store) (committed_database programs (reverse outcome.history))
