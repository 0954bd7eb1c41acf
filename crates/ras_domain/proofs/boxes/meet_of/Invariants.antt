use Rattle.std.proofs.Common.{◌≡◌, length, take}
use Rattle.ras_domain.specs.Boxes.{meet_of}
use Rattle.ras_domain.proofs.boxes.meet_of.Given as goal

abbrev pub invariant-loop-first : goal.invariant-loop-first
invariant-loop-first l = l.bounds.items ≡ take (length l.yielded) (meet_of l.a l.b)
