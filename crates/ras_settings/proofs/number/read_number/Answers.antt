use Rattle.std.proofs.Common.{◌≡◌, ◌<◌, ◌^◌, ◌∙◌, sym, arith, Ok, true≢false}
use Rattle.ras_settings.proofs.NumberTexts.{reads, written}
use Rattle.ras_settings.proofs.number.read_number.Goals as goal

pub returns-in_default : goal.returns-in_default
returns-in_default c = λ n h.
    let small : n < 2 ^ 32 = omega arith in
    c.in_default.not-Ok n (reads _ n c.parse.result c.parse.ensures.value.0 small h.written).0

pub returns-then-not-is_plain : goal.returns-then-not-is_plain
returns-then-not-is_plain c = λ n h.
    let small : n < 2 ^ 32 = omega arith in
    true≢false (sym (reads _ n c.parse.result c.parse.ensures.value.0 small h.written).1 ∙ sym c.is_plain.ensures ∙ c.if-not-is_plain.true)

pub returns-then-number-least : goal.returns-then-number-least
returns-then-number-least c = λ n h.
    let small : n < 2 ^ 32 = omega arith in
    let is : c.parse.result ≡ Ok n = (reads _ n c.parse.result c.parse.ensures.value.0 small h.written).0 in
    let same : c.in-Ok.number ≡ n = cc (is, c.in-Ok.is) in
    omega arith

pub returns-then-most-number : goal.returns-then-most-number
returns-then-most-number c = λ n h.
    let small : n < 2 ^ 32 = omega arith in
    let is : c.parse.result ≡ Ok n = (reads _ n c.parse.result c.parse.ensures.value.0 small h.written).0 in
    let same : c.in-Ok.number ≡ n = cc (is, c.in-Ok.is) in
    omega arith

pub returns : goal.returns
returns c = record {
  written = written c.args.text.now c.in-Ok.number c.in-Ok.ensures.value.0.0 c.in-Ok.ensures.value.0.1 (sym c.is_plain.ensures ∙ c.if-not-is_plain.false);
  at_least = c.if-number-least.false;
  at_most = c.if-most-number.false;
}
