use Rattle.std.proofs.Common.{◌≡◌, ◌≤◌, ◌*◌, ◌^◌, map, take}
use Rattle.std.specs.Prelude.{unsigned_abs}
use Rattle.ras_fold.specs.Sums.{sum_of_all}
use Rattle.ras_fold.proofs.sums.far_sum.Given as goal

abbrev pub invariant-loop-number : goal.invariant-loop-number
invariant-loop-number g l =
    (l.total ≡ sum_of_all (map g.N.Number.number (take l.number-index l.numbers))) × (unsigned_abs l.total ≤ 2 ^ 63 * l.number-index)
