use Rattle.std.proofs.Common.{◌≡◌, ℕ, ◌<◌, false}
use Rattle.ras_kernel.specs.Numbers.{AreOutcomes}
use Rattle.ras_kernel.specs.Runs.{run_number}
use Rattle.ras_kernel.proofs.unary.each.Given as goal

abbrev pub invariant-loop-i : goal.invariant-loop-i
invariant-loop-i g l =
    ((k : ℕ) → k < l.from → run_number l.out k ≡ run_number l.fn.out k)
    × (l.faulty ≡ false → AreOutcomes (λ k. g.O.Unary.outcome l.operation (run_number l.a k)) l.from l.i l.out)
