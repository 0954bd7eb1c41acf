use Rattle.std.proofs.Common.{sym}
use Rattle.ras_parse.proofs.Took.{takes-end, takes-not, takes-it}
use Rattle.ras_parse.proofs.cursor.Cursor.number.Goals as goal

pub returns-in_default : goal.returns-in_default
returns-in_default c = takes-end _ _ c.in_default.ensures.token

pub returns-in_default-number : goal.returns-in_default-number
returns-in_default-number c = takes-not _ _ _ c.in-Some.ensures.token (sym (c.in_default-number.ensures _))

pub returns : goal.returns
returns c = takes-it _ _ _ _ _ c.in-Some.ensures.token (sym (c.in-Some-number.ensures _)) c.advance.ensures
