use Rattle.std.proofs.Common.{◌≤◌, ◌-◌, length}
use Rattle.ras_kernel.specs.Numbers.{unless_null}
use Rattle.ras_kernel.specs.Runs.{HoldsBelow, is_null, run_number}
use Rattle.ras_kernel.proofs.binary.run_binary.Given as goal

abbrev pub invariant-loop-from : goal.invariant-loop-from
invariant-loop-from g l =
    (l.from ≤ length l.out) × HoldsBelow (λ k. unless_null (is_null l.nulls k) (g.O.Binary.outcome (run_number l.a k) (run_number l.b k))) l.from l.out l.nulls

abbrev pub decreases-loop-from : goal.decreases-loop-from
decreases-loop-from g l = length l.out - l.from
