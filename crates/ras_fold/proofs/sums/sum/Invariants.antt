use Rattle.std.proofs.Common.{◌≡◌, ◌≤◌, ◌+◌, ◌*◌, ◌^◌, ◌+ℤ◌, length, map}
use Rattle.std.specs.Prelude.{unsigned_abs}
use Rattle.ras_fold.specs.Sums.{sum_of_all}
use Rattle.ras_fold.proofs.sums.sum.Given as goal

abbrev pub invariant-loop-block : goal.invariant-loop-block
invariant-loop-block g l =
    (l.total +ℤ sum_of_all (map g.N.Number.number l.block-iterator.rest.now) ≡ sum_of_all (map g.N.Number.number l.numbers))
    × (unsigned_abs l.total + 2 ^ 63 * length l.block-iterator.rest.now ≤ 2 ^ 63 * length l.numbers)
    × (l.block-iterator.size ≡ 1024)
