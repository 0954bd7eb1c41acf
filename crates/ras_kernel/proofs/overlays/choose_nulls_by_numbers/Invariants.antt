use Rattle.std.proofs.Common.{◌≡◌, ℕ, ◌<◌, ◌&&◌}
use Rattle.ras_cells.specs.Numbers.{is_zero}
use Rattle.ras_kernel.specs.Runs.{is_null, run_number}
use Rattle.ras_kernel.proofs.overlays.choose_nulls_by_numbers.Given as goal

abbrev pub invariant-loop-i : goal.invariant-loop-i
invariant-loop-i l = (k : ℕ) → k < l.i → is_null l.outn k ≡ (is_null l.an k && is_zero (run_number l.b k))
