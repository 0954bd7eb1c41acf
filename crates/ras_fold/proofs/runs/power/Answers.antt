use Rattle.std.proofs.Common.{◌≡◌, ◌≤◌, ◌^◌, Some, w64, to_z, of_z, sym, ap, ◌∙◌, arith}
use Rattle.std.specs.Int.{w128}
use Rattle.std.specs.Prelude.{unsigned_abs}
use Rattle.std.proofs.lemmas.Int.{ints, to_z-of_z}
use Rattle.ras_fold.specs.Kept.{product_of}
use Rattle.ras_fold.proofs.Same.{product-replicate}
use Rattle.ras_fold.proofs.runs.power.Goals as goal

pub factors-preserved : goal.factors-preserved
factors-preserved c =
    let z = c.args.number in
    let fits = c.ranges.number in
    let factor : to_z w128 (of_z w128 c.from.result) ≡ z = omega (arith, ints, c.from.ensures, fits) in
    let small : unsigned_abs z ≤ 2 ^ 63 = omega (arith, ints, fits) in
    let before = rw (to_z-of_z w64 z fits) at c.factors.invariant in
    rw (to_z-of_z w64 z fits)
    (c.product-kept.ensures
    ∙ ap (λ x. product_of c.factors.kept (Some x)) factor
    ∙ ap (λ kept. product_of kept (Some z)) before
    ∙ sym (product-replicate c.factors.counter z small))
