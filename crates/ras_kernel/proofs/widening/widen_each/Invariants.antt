use Rattle.std.proofs.Common.{◌≡◌, map, take}
use Rattle.ras_kernel.proofs.widening.widen_each.Given as goal

abbrev pub invariant-loop-i : goal.invariant-loop-i
invariant-loop-i g l = take l.i l.out ≡ map g.N.Narrow.number (take l.i l.numbers)
