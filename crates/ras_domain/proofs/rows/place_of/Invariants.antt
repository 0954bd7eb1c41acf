use Rattle.std.proofs.Common.{length, take, drop}
use Rattle.ras_domain.proofs.Places.{IsFront}
use Rattle.ras_domain.proofs.rows.place_of.Given as goal

abbrev pub invariant-loop-axis : goal.invariant-loop-axis
invariant-loop-axis l =
    IsFront l.axes l.place (take (length l.yielded) l.p) (drop (length l.yielded) l.axes)
