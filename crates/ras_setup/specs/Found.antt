-- Workloads in memory, as those of the definitions, and what is found of a text.
use Rattle.std.specs.Prelude.{◌≡◌, ℕ, Option, Some, option_map, Result, Ok, Err}
use Rattle.ras_setup.specs.declared.fault.SetupFault.{SetupFault}
use Rattle.ras_setup.specs.declared.fault.SetupFault.TheVariants.{Syntax, Answer, Word}
use Rattle.ras_setup.specs.declared.fault.WorkloadRefusal.{WorkloadRefusal}
use Rattle.ras_setup.specs.declared.fault.WorkloadRefusal.TheVariants.{Outline, SetupFailed}
use Rattle.ras_store.specs.Databases.{Keeps}
use Rattle.ras_store.specs.Store.{store_kept}
use Rattle.ras_store.specs.declared.workload.Workload.{Workload}
use Rattle.ras_workload.specs.Told.{fault_seen}
use Rattle.spec_statements.specs.Reply.{reply_of_answer}
use Rattle.spec_workloads.specs.Setup as spec
use Rattle.spec_workloads.specs.Setup.{WorkloadFaultValue, WorkloadValue, no_outline, setup_failed}

-- the types and the scripts are those of the workload, and its database is kept
pub record IsWorkload (value : WorkloadValue) (workload : Workload) : Type 0 where
  pub types : workload.types ≡ value.types
  pub base : Keeps value.types (store_kept workload.base) value.base
  pub scripts : workload.scripts ≡ value.scripts

-- ---- faults

abbrev pub setup_fault_seen : SetupFault → spec.SetupFault
setup_fault_seen (Syntax fault) = spec.unread fault
setup_fault_seen (Answer answer) = spec.replied (reply_of_answer answer)
setup_fault_seen Word = spec.a_word

-- want of memory is no fault of the text
abbrev pub refusal_seen : WorkloadRefusal → Option WorkloadFaultValue
refusal_seen (Outline fault) = option_map no_outline (fault_seen fault)
refusal_seen (SetupFailed statement fault) = Some (setup_failed statement (setup_fault_seen fault))

-- a fault of the text is the one that is wanted
abbrev pub IsWantedFault : {A : Type 0} → Result A WorkloadFaultValue → WorkloadRefusal → Type 0
IsWantedFault wanted refusal = (fault : WorkloadFaultValue) → refusal_seen refusal ≡ Some fault → wanted ≡ Err fault

-- ---- what is found

-- the wanted workload is this one
pub record IsWanted (wanted : Result WorkloadValue WorkloadFaultValue) (workload : Workload) : Type 0 where
  pub value : WorkloadValue
  pub same : wanted ≡ Ok value
  pub is : IsWorkload value workload

-- and the place behind the line of its last heading is this one
pub record IsWantedWith (wanted : Result (WorkloadValue × ℕ) WorkloadFaultValue) (workload : Workload) (behind : ℕ) : Type 0 where
  pub value : WorkloadValue
  pub same : wanted ≡ Ok (value, behind)
  pub is : IsWorkload value workload

abbrev pub IsFoundFor : Result WorkloadValue WorkloadFaultValue → Result Workload WorkloadRefusal → Type 0
IsFoundFor wanted (Ok workload) = IsWanted wanted workload
IsFoundFor wanted (Err refusal) = IsWantedFault wanted refusal

abbrev pub IsPlacedFor : Result (WorkloadValue × ℕ) WorkloadFaultValue → Result (Workload × ℕ) WorkloadRefusal → Type 0
IsPlacedFor wanted (Ok found) = IsWantedWith wanted found.0 found.1
IsPlacedFor wanted (Err refusal) = IsWantedFault wanted refusal

-- what is found is the workload that is wanted, or its fault; only memory may be wanting
pub record FindsWorkload (wanted : Result WorkloadValue WorkloadFaultValue) (result : Result Workload WorkloadRefusal) : Type 0 where
  pub is : IsFoundFor wanted result

pub record FindsPlaced (wanted : Result (WorkloadValue × ℕ) WorkloadFaultValue) (result : Result (Workload × ℕ) WorkloadRefusal) : Type 0 where
  pub is : IsPlacedFor wanted result
