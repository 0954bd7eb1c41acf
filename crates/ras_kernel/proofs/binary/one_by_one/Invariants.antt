use Rattle.ras_kernel.specs.Numbers.{unless_null}
use Rattle.ras_kernel.specs.Runs.{HoldsBelow, is_null, run_number}
use Rattle.ras_kernel.proofs.binary.one_by_one.Given as goal

abbrev pub invariant-loop-i : goal.invariant-loop-i
invariant-loop-i g l =
    HoldsBelow
    (λ k. unless_null (is_null l.nulls k) (g.O.Binary.outcome (run_number l.a k) (run_number l.b k))) l.i l.out l.nulls
