use Rattle.std.proofs.Common.{◌≡◌, map, take}
use Rattle.ras_domain.proofs.rows.first_of.Given as goal

abbrev pub invariant-loop-axis : goal.invariant-loop-axis
invariant-loop-axis l = l.point.items ≡ map (λ axis. axis.lo) (take l.axis-index l.axes)
