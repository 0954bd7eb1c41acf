use Rattle.std.proofs.Common.{◌≤◌, ◌^◌, subst}
use Rattle.ras_parse.proofs.Values.{too_wide}
use Rattle.ras_parse.proofs.bytes.value_of.Goals as goal

pub returns-in_default : goal.returns-in_default
returns-in_default c =
    subst (λ n. 2 ^ 63 ≤ n) c.loop-digit.invariant
    (too_wide c.loop-digit.value c.args.digits.now c.loop-digit.digit-index c.loop-digit-test.true c.in_default.ensures)
