use Rattle.std.proofs.Common.{◌≤◌, ◌^◌, Some, ap, arith}
use Rattle.std.specs.Prelude.{unsigned_abs}
use Rattle.std.proofs.lemmas.Int.{ints}
use Rattle.ras_fold.proofs.kept.sum.Goals as goal

pub overflow_add-result : goal.overflow_add-result
overflow_add-result c =
    let x : unsigned_abs c.in-Some-Some.x ≤ 2 ^ 88 = c.requires.a _ c.in-Some-Some.is-0 in
    let y : unsigned_abs c.in-Some-Some.y ≤ 2 ^ 88 = c.requires.b _ c.in-Some-Some.is-1 in
    omega (arith, ints, x, y)

pub returns-in-Some-Some : goal.returns-in-Some-Some
returns-in-Some-Some c =
    let x : unsigned_abs c.in-Some-Some.x ≤ 2 ^ 88 = c.requires.a _ c.in-Some-Some.is-0 in
    let y : unsigned_abs c.in-Some-Some.y ≤ 2 ^ 88 = c.requires.b _ c.in-Some-Some.is-1 in
    rw (c.in-Some-Some.is-0, c.in-Some-Some.is-1) (ap Some (omega (arith, ints, x, y)))
