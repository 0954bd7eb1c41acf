use Rattle.std.proofs.Common.{◌≡◌, ℕ, ◌<◌, ◌||◌}
use Rattle.ras_kernel.specs.Runs.{is_null}
use Rattle.ras_kernel.proofs.nulls.join_each.Given as goal

abbrev pub invariant-loop-i : goal.invariant-loop-i
invariant-loop-i l = (k : ℕ) → k < l.i → is_null l.out k ≡ (is_null l.a k || is_null l.b k)
