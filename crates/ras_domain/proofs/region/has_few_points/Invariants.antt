use Rattle.std.proofs.Common.{◌≡◌, ◌*◌, ◌≤◌, length, drop}
use Rattle.ras_domain.specs.Region.{points_of}
use Rattle.ras_domain.proofs.region.has_few_points.Given as goal
use Rattle.ras_domain.specs.declared.TheConstants.{MAX_POINTS}

abbrev pub invariant-loop-axis : goal.invariant-loop-axis
invariant-loop-axis l =
    (l.points * length (points_of (drop l.axis-index l.axes)) ≡ length (points_of l.axes)) × (l.points ≤ MAX_POINTS)
