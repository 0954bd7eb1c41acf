-- What a rule's outcome is where memory may be wanting.
use Rattle.std.specs.Prelude.{◌≡◌, Result, Ok, Err}
use Rattle.ras_syntax.specs.declared.faults.CheckFault.{CheckFault}
use Rattle.ras_kinds.specs.declared.components.RuleFault.{RuleFault}
use Rattle.ras_kinds.specs.declared.components.RuleFault.TheVariants.{Fault, Memory}

-- it is the rule's value or the rule's fault; want of memory is the only freedom
abbrev pub Follows : {A : Type 0} → Result A CheckFault → Result A RuleFault → Type 0
Follows rule (Ok a) = rule ≡ Ok a
Follows rule (Err (Fault fault)) = rule ≡ Err fault
Follows rule (Err Memory) = Unit {0}
