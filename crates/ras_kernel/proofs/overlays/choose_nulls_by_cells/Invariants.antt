use Rattle.std.proofs.Common.{◌≡◌, ℕ, ◌<◌, ◌&&◌}
use Rattle.ras_kernel.specs.Numbers.{gives_way}
use Rattle.ras_kernel.specs.Runs.{is_null}
use Rattle.ras_kernel.proofs.overlays.choose_nulls_by_cells.Given as goal

abbrev pub invariant-loop-i : goal.invariant-loop-i
invariant-loop-i l = (k : ℕ) → k < l.i → is_null l.outn k ≡ (is_null l.an k && gives_way l.b l.bn k)
