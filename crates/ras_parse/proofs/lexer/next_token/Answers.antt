use Rattle.std.proofs.Common.{ap, sym, ◌∙◌}
use Rattle.ras_parse.specs.Walk.{lexed_with}
use Rattle.ras_parse.proofs.Steps.{lexed-steps, found_there}
use Rattle.ras_parse.proofs.lexer.next_token.Goals as goal

pub returns-clause-steps : goal.returns-clause-steps
returns-clause-steps c =
    lexed-steps c.args.text.now c.args.at
    ∙ ap (lexed_with c.args.text.now)
    (sym (c.token_at.ensures.found ∙ found_there c.args.text.now c.args.at c.space_len.result c.space_len.ensures.value))
