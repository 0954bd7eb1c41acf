use Rattle.std.proofs.Common.{◌≤◌, length, map}
use Rattle.ras_values.proofs.Scopes.{IsLookedThrough}
use Rattle.ras_values.proofs.names.innermost.Given as goal

abbrev pub invariant-loop-left : goal.invariant-loop-left
invariant-loop-left l =
    record {
      within : l.left ≤ length l.names;
      through : IsLookedThrough l.name (map (λ name. name.now) l.names) l.left;
    }

abbrev pub decreases-loop-left : goal.decreases-loop-left
decreases-loop-left l = l.left
