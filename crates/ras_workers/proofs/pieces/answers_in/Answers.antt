use Rattle.std.proofs.Common.{◌≡◌, length, arith}
use Rattle.std.specs.Vec.Iter.{into_iter_items}
use Rattle.ras_workers.proofs.Places.{AreAnswers-taken}
use Rattle.ras_workers.proofs.pieces.answers_in.Goals as goal

pub returns-clause-answers : goal.returns-clause-answers
returns-clause-answers g c =
    let long : length c.args.places.items ≡ length c.args.pieces.now = omega (arith, c.requires.len, c.args.places.ok) in
    let none : length (into_iter_items c.loop-place.place-iterator) ≡ 0 = omega (arith, c.in-None.ensures.steps.0, c.loop-place.place-iterator.rest.ok) in
    AreAnswers-taken g.F.Fn c.args.f.now c.args.pieces.now c.args.places.items (into_iter_items c.loop-place.place-iterator)
    c.loop-place.answers.items c.requires.answers long c.loop-place.invariant none
