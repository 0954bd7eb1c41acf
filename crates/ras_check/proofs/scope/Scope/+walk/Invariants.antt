use Rattle.std.proofs.Common.{◌≡◌, ◌≤◌, length}
use Rattle.spec_expressions.specs.Check.{checked_axis, checked_expr}
use Rattle.ras_check.specs.Walk.{checked_both}
use Rattle.ras_catalog.proofs.Listed.{IsListed}
use Rattle.ras_check.proofs.scope.Scope.+walk.Given as goal

abbrev pub invariant-all-loop-part : goal.invariant-all-loop-part
invariant-all-loop-part l = record { same : l.self ≡ l.initial.self; listed : IsListed (λ e. checked_expr e l.initial.self) l.parts l.part-index l.all }

abbrev pub invariant-pairs-loop-pair : goal.invariant-pairs-loop-pair
invariant-pairs-loop-pair l = record { same : l.self ≡ l.initial.self; listed : IsListed (checked_both l.initial.self) l.pairs l.pair-index l.all }

abbrev pub invariant-axes-loop-axis : goal.invariant-axes-loop-axis
invariant-axes-loop-axis l = record { same : l.self ≡ l.initial.self; listed : IsListed (λ axis. checked_axis axis l.initial.self) l.axes l.axis-index l.all }
