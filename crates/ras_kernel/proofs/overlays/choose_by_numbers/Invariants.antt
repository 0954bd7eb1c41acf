use Rattle.std.proofs.Common.{◌≡◌, ℕ, ◌<◌}
use Rattle.std.specs.Prelude.{if◌then◌else◌}
use Rattle.ras_cells.specs.Numbers.{is_zero}
use Rattle.ras_kernel.specs.Runs.{run_number}
use Rattle.ras_kernel.proofs.overlays.choose_by_numbers.Given as goal

abbrev pub invariant-loop-i : goal.invariant-loop-i
invariant-loop-i l =
    (k : ℕ) → k < l.i
    → run_number l.out k ≡ (if is_zero (run_number l.b k) then run_number l.a k else run_number l.b k)
