use Rattle.std.proofs.Common.{sym, ◌∙◌}
use Rattle.spec_grammar.specs.Tokens.{word}
use Rattle.ras_parse.proofs.Took.{accepts-end, accepts-not, accepts-it}
use Rattle.ras_parse.proofs.cursor.Cursor.word.Goals as goal

pub returns-in_default : goal.returns-in_default
returns-in_default c = accepts-end (word c.args.word.now) _ c.in_default.ensures.token

pub returns-then-not-is_word : goal.returns-then-not-is_word
returns-then-not-is_word c = accepts-not (word c.args.word.now) _ _ c.in-Some.ensures.token (sym c.is_word.ensures.same ∙ c.if-not-is_word.true)

pub returns : goal.returns
returns c = accepts-it (word c.args.word.now) _ _ _ c.in-Some.ensures.token (sym c.is_word.ensures.same ∙ c.if-not-is_word.false) c.advance.ensures
