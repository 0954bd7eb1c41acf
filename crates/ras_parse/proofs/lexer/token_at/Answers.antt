use Rattle.std.proofs.Common.{sym, ◌∙◌}
use Rattle.ras_parse.proofs.Fronts.{name_found, number_found}
use Rattle.ras_parse.proofs.lexer.token_at.Goals as goal

pub returns-then-begins_name-clause-found : goal.returns-then-begins_name-clause-found
returns-then-begins_name-clause-found c =
    c.name_at.ensures.found ∙ name_found c.args.text.now c.args.from c.name_len.result c.if-from-text.false
    (sym c.begins_name.ensures ∙ c.if-begins_name.true) c.name_len.ensures.value

pub returns-then-is_digit-clause-found : goal.returns-then-is_digit-clause-found
returns-then-is_digit-clause-found c =
    c.number_at.ensures.found ∙ number_found c.args.text.now c.args.from c.digits_len.result c.if-from-text.false
    (sym c.begins_name.ensures ∙ c.if-begins_name.false) (sym c.is_digit.ensures ∙ c.if-is_digit.true) c.digits_len.ensures.value
