use Rattle.std.proofs.Common.{◌≡◌, sym, to_z, of_z, w64, to_z-of_z, rules}
use Rattle.ras_parse.proofs.Took.{takes-end, takes-not, takes-it}
use Rattle.ras_parse.proofs.cursor.Cursor.plain_number.Goals as goal

pub returns-in_default : goal.returns-in_default
returns-in_default c = takes-end _ _ c.in_default.ensures.token

pub returns-in_default-plain_number : goal.returns-in_default-plain_number
returns-in_default-plain_number c = takes-not _ _ _ c.in-Some.ensures.token (sym (c.in_default-plain_number.ensures _))

pub returns : goal.returns
returns c =
    let same : to_z w64 (of_z w64 c.in-Some-plain_number.number) ≡ c.in-Some-plain_number.number = to_z-of_z {w = w64} (search rules) in
    rw same (takes-it _ _ _ _ _ c.in-Some.ensures.token (sym (c.in-Some-plain_number.ensures _)) c.advance.ensures)
