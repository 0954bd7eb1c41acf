use Rattle.std.proofs.Common.{sym, ◌∙◌, slice_range}
use Rattle.ras_parse.specs.Seen.{token_in}
use Rattle.ras_parse.proofs.Times.{times_of-is}
use Rattle.ras_parse.proofs.Took.{takes-end, takes-not, takes-it}
use Rattle.ras_parse.proofs.cursor.Cursor.retries.Goals as goal

pub returns-in_default : goal.returns-in_default
returns-in_default c = takes-end _ _ c.in_default.ensures.token

pub returns-in_default-retries_of : goal.returns-in_default-retries_of
returns-in_default-retries_of c =
    let f = c.in-Some.front in
    takes-not _ _ _ c.in-Some.ensures.token
    (times_of-is (token_in f.text.now f.token) ∙ sym (c.in_default-retries_of.ensures (slice_range f.text.now f.token.span.from f.token.span.to)))

pub returns : goal.returns
returns c =
    let f = c.in-Some.front in
    takes-it _ _ _ _ _ c.in-Some.ensures.token
    (times_of-is (token_in f.text.now f.token) ∙ sym (c.in-Some-retries_of.ensures (slice_range f.text.now f.token.span.from f.token.span.to)))
    c.advance.ensures
