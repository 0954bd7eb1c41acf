use Rattle.std.proofs.Common.{rules, ◌<◌, vec_len, ◌∙◌, arith}
use Rattle.ras_turn.proofs.tests.written.Goals as goal

pub close-requires-clause-numbers : goal.close-requires-clause-numbers
close-requires-clause-numbers g c = λ k below.
    let new = c.in-Ok.ensures in
    let some = new.turn.0 in
    let count = new.count in
    let near : k < vec_len c.in-Ok.passes = omega arith in
    (k, search rules, λ d. (c.in_ok-passes.ensures.each k d near).1 ∙ (new.passes k (search rules) d).number)
