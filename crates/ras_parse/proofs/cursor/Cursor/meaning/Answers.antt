use Rattle.std.proofs.Common.{sym}
use Rattle.ras_parse.proofs.Took.{takes-end, takes-not, takes-it}
use Rattle.ras_parse.proofs.cursor.Cursor.meaning.Goals as goal

pub returns-in_default : goal.returns-in_default
returns-in_default g c = takes-end _ _ c.in_default.ensures.token

pub returns-in_default-meaning : goal.returns-in_default-meaning
returns-in_default-meaning g c = takes-not _ _ _ c.in-Some.ensures.token (sym (c.in_default-meaning.ensures))

pub returns : goal.returns
returns g c = takes-it _ _ _ _ _ c.in-Some.ensures.token (sym (c.in-Some-meaning.ensures)) c.advance.ensures
