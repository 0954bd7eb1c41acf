use Rattle.ras_domain.proofs.Places.{IsBack}
use Rattle.ras_domain.proofs.rows.write_point.Given as goal

abbrev pub invariant-loop-i : goal.invariant-loop-i
invariant-loop-i l = IsBack l.axes l.fn.place l.i l.place l.point

abbrev pub decreases-loop-i : goal.decreases-loop-i
decreases-loop-i l = l.i
