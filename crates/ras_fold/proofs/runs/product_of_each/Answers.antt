use Rattle.std.proofs.Common.{◌≡◌, ◌≤◌, ◌^◌, Some, w64, to_z, of_z, sym, ap, ◌∙◌, rules, arith}
use Rattle.std.specs.Int.{w128}
use Rattle.std.specs.Prelude.{FitsSigned, unsigned_abs}
use Rattle.std.proofs.lemmas.Int.{ints}
use Rattle.ras_fold.specs.Kept.{product_of}
use Rattle.ras_fold.proofs.Same.{product-map-take}
use Rattle.ras_fold.proofs.runs.product_of_each.Goals as goal

pub loop-number-preserved : goal.loop-number-preserved
loop-number-preserved g c =
    let number = g.N.Number.number in
    let item = c.number-item.result in
    let fits : FitsSigned w64 c.widened.result = search rules in
    let factor : to_z w128 (of_z w128 c.from.result) ≡ number item = omega (arith, ints, c.widened.ensures, c.from.ensures, fits) in
    let small : unsigned_abs (number item) ≤ 2 ^ 63 = omega (arith, ints, c.widened.ensures, fits) in
    c.product-kept.ensures
    ∙ ap (λ x. product_of c.loop-number.kept (Some x)) factor
    ∙ ap (λ kept. product_of kept (Some (number item))) c.loop-number.invariant
    ∙ sym (product-map-take number c.args.numbers.now c.loop-number.number-index item (omega arith) c.number-item.is small)
