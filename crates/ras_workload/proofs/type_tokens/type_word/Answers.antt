use Rattle.std.proofs.Common.{sym, ◌∙◌}
use Rattle.ras_parse.specs.Seen.{token_in}
use Rattle.ras_parse.proofs.Took.{takes-end, takes-not, takes-it}
use Rattle.ras_workload.proofs.TypeTokens.{word_none, word_other, word_is}
use Rattle.ras_workload.proofs.type_tokens.type_word.Goals as goal

pub returns-in_default : goal.returns-in_default
returns-in_default c = takes-end _ _ c.in_default.ensures.token

pub returns-in_default-name : goal.returns-in_default-name
returns-in_default-name c =
    let t = token_in c.in-Some.front.text.now c.in-Some.front.token in
    takes-not _ _ t c.in-Some.ensures.token (word_none _ t (sym c.in_default-name.ensures))

pub returns-then-not-is_same : goal.returns-then-not-is_same
returns-then-not-is_same c =
    let t = token_in c.in-Some.front.text.now c.in-Some.front.token in
    takes-not _ _ t c.in-Some.ensures.token (word_other _ t _ (sym c.in-Some-name.ensures) (sym c.is_same.ensures ∙ c.if-not-is_same.true))

pub returns : goal.returns
returns c =
    let t = token_in c.in-Some.front.text.now c.in-Some.front.token in
    takes-it _ _ _ t _ c.in-Some.ensures.token (word_is _ t _ (sym c.in-Some-name.ensures) (sym c.is_same.ensures ∙ c.if-not-is_same.false))
    c.advance.ensures
