use Rattle.std.proofs.Common.{◌≡◌, map, sym, ap, ◌∙◌, of_z, w64, below_more, arith}
use Rattle.std.proofs.lemmas.Int.{ints}
use Rattle.ras_tile.specs.Planes.{listed_number}
use Rattle.ras_tile.proofs.Cells.{at_map, at_first}
use Rattle.ras_tile.proofs.lane.are_equal.Goals as goal

pub returns-then-widen-first : goal.returns-then-widen-first
returns-then-widen-first g c =
    let here : listed_number (map g.T.Lane.number c.args.numbers.now) c.loop-number.number-index ≡ c.widen.result =
    at_map g.T.Lane.number c.args.numbers.now c.loop-number.number-index c.number-item.result c.loop-number-test.true c.number-item.is ∙ sym c.widen.ensures in
    let first : listed_number (map g.T.Lane.number c.args.numbers.now) 0 ≡ c.widen-first.result =
    at_first g.T.Lane.number c.args.numbers.now c.in-Some.first.now c.in-Some.ensures.value ∙ sym c.widen-first.ensures in
    (λ no. absurd cc, λ same. absurd (c.if-widen-first.true (ap (of_z w64) (sym here ∙ same c.loop-number.number-index c.loop-number-test.true ∙ first))))

pub loop-number-preserved : goal.loop-number-preserved
loop-number-preserved g c =
    let here : listed_number (map g.T.Lane.number c.args.numbers.now) c.loop-number.number-index ≡ c.widen.result =
    at_map g.T.Lane.number c.args.numbers.now c.loop-number.number-index c.number-item.result c.loop-number-test.true c.number-item.is ∙ sym c.widen.ensures in
    let first : listed_number (map g.T.Lane.number c.args.numbers.now) 0 ≡ c.widen-first.result =
    at_first g.T.Lane.number c.args.numbers.now c.in-Some.first.now c.in-Some.ensures.value ∙ sym c.widen-first.ensures in
    let same : c.widen.result ≡ c.widen-first.result = omega (arith, ints, c.if-widen-first.false) in
    below_more _ _ c.loop-number.invariant (here ∙ same ∙ sym first)
