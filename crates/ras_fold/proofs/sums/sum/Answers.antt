use Rattle.std.proofs.Common.{◌≡◌, ◌+◌, ◌+ℤ◌, length, map, ap, ◌∙◌, arith, length-append}
use Rattle.std.proofs.lemmas.Int.{ints}
use Rattle.ras_fold.specs.Sums.{sum_of_all}
use Rattle.ras_fold.proofs.Joining.{sum_of_all-map-append}
use Rattle.ras_fold.proofs.sums.sum.Goals as goal

pub loop-block-preserved : goal.loop-block-preserved
loop-block-preserved g c =
    let rest = c.loop-block.block-iterator.rest.now in
    let block = c.in-Some.block.now in
    let after = c.next.new.self.rest.now in
    let steps = c.in-Some.ensures.steps in
    let number = g.N.Number.number in
    let sums : sum_of_all (map number rest) ≡ sum_of_all (map number block) +ℤ sum_of_all (map number after) =
    ap (λ xs. sum_of_all (map number xs)) steps.1.0 ∙ sum_of_all-map-append number block after in
    let lengths : length rest ≡ length block + length after = ap length steps.1.0 ∙ length-append block after in
    let before = c.loop-block.invariant in
    let added = c.sum_of_block-total.ensures in (
      omega (arith, ints, sums, lengths, before.0, before.1, added.value, added.size, c.requires),
      omega (arith, ints, lengths, before.1, added.size, c.requires),
      steps.0 ∙ before.2,
    )
