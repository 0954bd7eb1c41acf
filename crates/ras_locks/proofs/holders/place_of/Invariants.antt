use Rattle.std.proofs.Common.{◌≡◌, ◌<◌, ◌≤◌, ℕ, false, get_or, length}
use Rattle.std.specs.Prelude.{nat_le}
use Rattle.ras_locks.specs.declared.holders.Holder.{Holder}
use Rattle.ras_locks.proofs.holders.place_of.Given as goal

abbrev pub invariant-loop-place : goal.invariant-loop-place
invariant-loop-place l = (k : ℕ) (d : Holder) → k < l.place → nat_le l.owner (get_or l.holders k d).owner ≡ false
