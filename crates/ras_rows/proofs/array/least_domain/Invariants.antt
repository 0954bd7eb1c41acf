use Rattle.std.proofs.Common.{◌≡◌, take}
use Rattle.spec_shown.specs.Shown.{least_domain}
use Rattle.ras_rows.proofs.array.least_domain.Given as goal

abbrev pub invariant-loop-axis : goal.invariant-loop-axis
invariant-loop-axis l = l.axes.items ≡ take l.axis-index (least_domain l.of)
