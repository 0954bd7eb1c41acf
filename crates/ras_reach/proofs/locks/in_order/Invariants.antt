use Rattle.std.proofs.Common.{◌≡◌, ◌++◌, length}
use Rattle.ras_reach.specs.Keys.{names_kept}
use Rattle.ras_reach.proofs.locks.in_order.Given as goal

abbrev pub invariant-loop-key : goal.invariant-loop-key
invariant-loop-key l = l.list ++ names_kept l.left.entries ≡ names_kept l.initial.left.entries

abbrev pub decreases-loop-key : goal.decreases-loop-key
decreases-loop-key l = length l.left.entries
