-- What is told of a workload's text: its outline, or its first fault.
use Rattle.std.specs.Prelude.{◌≡◌, ℕ, Option, Some, None, Result, Ok, Err}
use Rattle.spec_workloads.specs.Outline as spec
use Rattle.spec_workloads.specs.Outline.{OutlineFault, bad_heading, bad_type, no_end, too_many_sessions, too_many_statements}
use Rattle.ras_workload.specs.declared.fault.WorkloadFault.{WorkloadFault}
use Rattle.ras_workload.specs.declared.fault.WorkloadFault.TheVariants.{BadHeading, BadType, TooManySessions, TooManyStatements, NoEnd, Memory}

-- want of memory is no fault of the text
abbrev pub fault_seen : WorkloadFault → Option OutlineFault
fault_seen (BadHeading line) = Some (bad_heading line)
fault_seen (BadType line) = Some (bad_type line)
fault_seen (TooManySessions line) = Some (too_many_sessions line)
fault_seen (TooManyStatements line) = Some (too_many_statements line)
fault_seen NoEnd = Some no_end
fault_seen Memory = None

-- a fault of the text is the one that is told
abbrev pub ToldFault : {A : Type 0} → Result A OutlineFault → WorkloadFault → Type 0
ToldFault told found = (fault : OutlineFault) → fault_seen found ≡ Some fault → told ≡ Err fault

-- what is found is what is told of a text; only memory may be wanting
abbrev pub IsFound : {A B : Type 0} → (B → A) → Result A OutlineFault → Result B WorkloadFault → Type 0
IsFound view told (Ok x) = told ≡ Ok (view x)
IsFound view told (Err found) = ToldFault told found

pub record FindsIn {A : Type 0} (told : Result A OutlineFault) (result : Result A WorkloadFault) : Type 0 where
  pub is : IsFound (λ x. x) told result
