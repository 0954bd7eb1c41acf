use Rattle.std.proofs.Common.{sym}
use Rattle.ras_parse.proofs.Took.{takes-end, takes-not, takes-it}
use Rattle.ras_parse.proofs.cursor.Cursor.name.Goals as goal

pub returns-in_default : goal.returns-in_default
returns-in_default c = takes-end _ _ c.in_default.ensures.token

pub returns-in_default-name : goal.returns-in_default-name
returns-in_default-name c = takes-not _ _ _ c.in-Some.ensures.token (sym (c.in_default-name.ensures))

pub returns : goal.returns
returns c = takes-it _ _ _ _ _ c.in-Some.ensures.token (sym (c.in-Some-name.ensures)) c.advance.ensures
