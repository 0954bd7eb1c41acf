use Rattle.std.proofs.Common.{sym, ◌∙◌}
use Rattle.spec_grammar.specs.Tokens.{sign}
use Rattle.ras_parse.proofs.Took.{accepts-end, accepts-not, accepts-it}
use Rattle.ras_parse.proofs.cursor.Cursor.sign.Goals as goal

pub returns-in_default : goal.returns-in_default
returns-in_default c = accepts-end (sign c.args.sign.now) _ c.in_default.ensures.token

pub returns-then-not-is_sign : goal.returns-then-not-is_sign
returns-then-not-is_sign c = accepts-not (sign c.args.sign.now) _ _ c.in-Some.ensures.token (sym c.is_sign.ensures.same ∙ c.if-not-is_sign.true)

pub returns : goal.returns
returns c = accepts-it (sign c.args.sign.now) _ _ _ c.in-Some.ensures.token (sym c.is_sign.ensures.same ∙ c.if-not-is_sign.false) c.advance.ensures
