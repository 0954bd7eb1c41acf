use Rattle.ras_domain.proofs.Places.{IsCarried}
use Rattle.ras_domain.proofs.rows.step.Given as goal

abbrev pub invariant-loop-i : goal.invariant-loop-i
invariant-loop-i l = IsCarried l.axes l.fn.p l.i l.p

abbrev pub decreases-loop-i : goal.decreases-loop-i
decreases-loop-i l = l.i
