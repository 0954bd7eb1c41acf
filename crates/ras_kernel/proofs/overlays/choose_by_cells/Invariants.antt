use Rattle.std.proofs.Common.{◌≡◌, ℕ, ◌<◌}
use Rattle.std.specs.Prelude.{if◌then◌else◌}
use Rattle.ras_kernel.specs.Numbers.{gives_way}
use Rattle.ras_kernel.specs.Runs.{run_number}
use Rattle.ras_kernel.proofs.overlays.choose_by_cells.Given as goal

abbrev pub invariant-loop-i : goal.invariant-loop-i
invariant-loop-i l =
    (k : ℕ) → k < l.i → run_number l.out k ≡ (if gives_way l.b l.bn k then run_number l.a k else run_number l.b k)
