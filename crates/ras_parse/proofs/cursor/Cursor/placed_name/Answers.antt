use Rattle.std.proofs.Common.{Some, sym, ◌∙◌, ap}
use Rattle.law_grammar.specs.Reading.{placed_name}
use Rattle.ras_parse.specs.Seen.{token_in}
use Rattle.ras_parse.proofs.Took.{expects-end, expects-not, expects-it, placed-not, placed-it}
use Rattle.ras_parse.proofs.cursor.Cursor.placed_name.Goals as goal

pub returns-in_default : goal.returns-in_default
returns-in_default c _ = expects-end placed_name c.args.self.now c.in_default.ensures.token

pub returns-in_default-name : goal.returns-in_default-name
returns-in_default-name c _ =
    expects-not placed_name c.args.self.now (token_in c.in-Some.front.text.now c.in-Some.front.token) c.in-Some.ensures.token
    (placed-not (token_in c.in-Some.front.text.now c.in-Some.front.token) (sym c.in_default-name.ensures))

pub returns : goal.returns
returns c =
    expects-it placed_name c.args.self.now c.advance.new.self (token_in c.in-Some.front.text.now c.in-Some.front.token) _ c.in-Some.ensures.token
    (placed-it (token_in c.in-Some.front.text.now c.in-Some.front.token) c.in_ok-name.name (sym c.in-Some-name.ensures ∙ ap (λ t. Some t) (sym c.in_ok-name.ensures)))
    c.advance.ensures
