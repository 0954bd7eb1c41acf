use Rattle.std.proofs.Common.{◌∙◌}
use Rattle.std.proofs.lemmas.Result.{err_from_is_err_and}
use Rattle.ras_parse.proofs.Follows.{goes-on, goes-by, tail, entered, skipped}
use Rattle.ras_parse.proofs.Readings.{reading}
use Rattle.ras_parse.proofs.forms.word_form.Goals as goal

pub returns-then-word : goal.returns-then-word
returns-then-word c = tail
    (entered c.word.ensures c.if-word.true _ _)
    (goes-by c.word.ensures) c.begin_rest.ensures

pub returns-then-word-2 : goal.returns-then-word-2
returns-then-word-2 c = record {
  gives = (goes-on (goes-on (goes-by c.word.ensures) (goes-by c.word-2.ensures)) c.commit_rest.ensures.gives.0, skipped c.word.ensures c.if-word.false _ _ ∙ entered c.word-2.ensures c.if-word-2.true _ _ ∙ c.commit_rest.ensures.gives.1);
}

pub returns-in_err-expect_word : goal.returns-in_err-expect_word
returns-in_err-expect_word c =
    let p = err_from_is_err_and c.from_residual.result c.from_residual.ensures.1 in
    rw (p.1, p.2) (record { gives = λ un. skipped c.word.ensures c.if-word.false _ _ ∙ skipped c.word-2.ensures c.if-word-2.false _ _ ∙ simp (c.in_err-expect_word.ensures.0, c.in_err-expect_word.ensures.1, reading) })

pub returns : goal.returns
returns c = record {
  gives = (goes-on (goes-on (goes-by c.word.ensures) (goes-by c.word-2.ensures)) c.in_ok-expect_word.ensures.0, skipped c.word.ensures c.if-word.false _ _ ∙ skipped c.word-2.ensures c.if-word-2.false _ _ ∙ simp (c.in_ok-expect_word.ensures.1, reading));
}
