use Rattle.std.proofs.Common.{◌<◌, length, arith}
use Rattle.ras_turn.proofs.tests.unwritten.Goals as goal

pub close-requires-clause-numbers : goal.close-requires-clause-numbers
close-requires-clause-numbers c = λ k below.
    let new = c.in-Ok.ensures in
    let some = new.turn.0 in
    let count = new.count in
    let near : k < length c.in-Ok.passes.items = omega arith in
    (k, near, λ d. (new.passes k near d).number)
