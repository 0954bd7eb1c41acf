use Rattle.std.proofs.Common.{refl}
use Rattle.std.proofs.lemmas.Result.{err_from_is_err_and}
use Rattle.spec_grammar.specs.Grammar.{w}
use Rattle.law_grammar.specs.Reading.{function_form}
use Rattle.ras_parse.proofs.Follows.{goes-on, goes-by, goes-past, skipped, entered, missed, met, found, lost, tail}
use Rattle.ras_parse.proofs.grammar.Grammar.function_form.Goals as goal

pub returns-in-Some : goal.returns-in-Some
unfolding function_form
returns-in-Some g c =
    tail (rw (met c.in-Some.ensures) refl)
    (goes-past c.in-Some.ensures) c.call_rest.ensures

pub returns-then-word : goal.returns-then-word
unfolding function_form
returns-then-word g c =
    tail (rw (missed c.in_default.ensures, entered c.word.ensures c.if-word.true) refl)
    (goes-on (goes-past c.in_default.ensures) (goes-by c.word.ensures)) c.abs_rest.ensures

pub returns-in-Some-meaning : goal.returns-in-Some-meaning
unfolding function_form
returns-in-Some-meaning g c =
    tail (rw (missed c.in_default.ensures, skipped c.word.ensures c.if-word.false, met c.in-Some-meaning.ensures) refl)
    (goes-on (goes-past c.in_default.ensures) (goes-on (goes-by c.word.ensures) (goes-past c.in-Some-meaning.ensures))) c.cells_rest.ensures

pub returns-then-word-2 : goal.returns-then-word-2
unfolding function_form
returns-then-word-2 g c =
    tail (rw (missed c.in_default.ensures, skipped c.word.ensures c.if-word.false, missed c.in_default-meaning.ensures, entered c.word-2.ensures c.if-word-2.true) refl)
    (goes-on (goes-past c.in_default.ensures) (goes-on (goes-by c.word.ensures) (goes-on (goes-past c.in_default-meaning.ensures) (goes-by c.word-2.ensures)))) c.shift_rest.ensures

pub returns-then-word-3 : goal.returns-then-word-3
unfolding function_form
returns-then-word-3 g c =
    tail (rw (
      missed c.in_default.ensures,
      skipped c.word.ensures c.if-word.false,
      missed c.in_default-meaning.ensures,
      skipped c.word-2.ensures c.if-word-2.false,
      entered c.word-3.ensures c.if-word-3.true,
    ) refl)
    (goes-on (goes-past c.in_default.ensures) (goes-on (goes-by c.word.ensures) (goes-on (goes-past c.in_default-meaning.ensures)
    (goes-on (goes-by c.word-2.ensures) (goes-by c.word-3.ensures))))) c.extend_rest.ensures

pub returns-then-word-4 : goal.returns-then-word-4
unfolding function_form
returns-then-word-4 g c =
    tail (rw (
      missed c.in_default.ensures,
      skipped c.word.ensures c.if-word.false,
      missed c.in_default-meaning.ensures,
      skipped c.word-2.ensures c.if-word-2.false,
      skipped c.word-3.ensures c.if-word-3.false,
      entered c.word-4.ensures c.if-word-4.true,
    ) refl)
    (goes-on (goes-past c.in_default.ensures) (goes-on (goes-by c.word.ensures) (goes-on (goes-past c.in_default-meaning.ensures)
    (goes-on (goes-by c.word-2.ensures) (goes-on (goes-by c.word-3.ensures) (goes-by c.word-4.ensures)))))) c.sdom_rest.ensures

pub returns : goal.returns
unfolding function_form
returns g c =
    tail (rw (
      missed c.in_default.ensures,
      skipped c.word.ensures c.if-word.false,
      missed c.in_default-meaning.ensures,
      skipped c.word-2.ensures c.if-word-2.false,
      skipped c.word-3.ensures c.if-word-3.false,
      skipped c.word-4.ensures c.if-word-4.false,
      found (w "oid") c.in_ok-expect_word.ensures,
    ) refl)
    (goes-on (goes-past c.in_default.ensures) (goes-on (goes-by c.word.ensures) (goes-on (goes-past c.in_default-meaning.ensures)
    (goes-on (goes-by c.word-2.ensures) (goes-on (goes-by c.word-3.ensures) (goes-on (goes-by c.word-4.ensures)
    (c.in_ok-expect_word.ensures.0))))))) c.oid_rest.ensures

pub returns-in_err-expect_word : goal.returns-in_err-expect_word
unfolding function_form
returns-in_err-expect_word g c =
    let p = err_from_is_err_and c.from_residual.result c.from_residual.ensures.1 in
    rw (p.1, p.2) (record {
      gives = λ u. rw (
        missed c.in_default.ensures,
        skipped c.word.ensures c.if-word.false,
        missed c.in_default-meaning.ensures,
        skipped c.word-2.ensures c.if-word-2.false,
        skipped c.word-3.ensures c.if-word-3.false,
        skipped c.word-4.ensures c.if-word-4.false,
        lost (w "oid") c.word-4.new.self c.expect_word.new.self c.in_err-expect_word.ensures.0 c.in_err-expect_word.ensures.1,
      ) refl;
    })
