use Rattle.std.proofs.Common.{◌≤◌, length}
use Rattle.ras_check.specs.ScopeView.{HasPlacesFrom}
use Rattle.ras_check.proofs.scope.places_of.Given as goal

abbrev pub invariant-loop-left : goal.invariant-loop-left
invariant-loop-left l = record { below : l.left ≤ length l.sources; placed : HasPlacesFrom l.left l.places l.sources }

abbrev pub decreases-loop-left : goal.decreases-loop-left
decreases-loop-left l = l.left
