use Rattle.std.proofs.Common.{sym, ◌∙◌}
use Rattle.ras_parse.specs.Seen.{token_in}
use Rattle.ras_parse.proofs.Took.{takes-end, takes-not, takes-it}
use Rattle.ras_workload.proofs.TypeTokens.{free_none, free_other, free_is}
use Rattle.ras_workload.proofs.type_tokens.free_name.Goals as goal

pub returns-in_default : goal.returns-in_default
returns-in_default c = takes-end _ _ c.in_default.ensures.token

pub returns-in_default-name : goal.returns-in_default-name
returns-in_default-name c =
    let t = token_in c.in-Some.front.text.now c.in-Some.front.token in
    takes-not _ _ t c.in-Some.ensures.token (free_none t (sym c.in_default-name.ensures))

pub returns-then-is_type_word : goal.returns-then-is_type_word
returns-then-is_type_word c =
    let t = token_in c.in-Some.front.text.now c.in-Some.front.token in
    takes-not _ _ t c.in-Some.ensures.token (free_other t _ (sym c.in-Some-name.ensures) (sym c.is_type_word.ensures ∙ c.if-is_type_word.true))

pub returns : goal.returns
returns c =
    let t = token_in c.in-Some.front.text.now c.in-Some.front.token in
    takes-it _ _ _ t _ c.in-Some.ensures.token (free_is t _ (sym c.in-Some-name.ensures) (sym c.is_type_word.ensures ∙ c.if-is_type_word.false))
    c.advance.ensures
