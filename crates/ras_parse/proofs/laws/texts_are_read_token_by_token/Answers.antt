use Rattle.std.proofs.Common.{sym}
use Rattle.ras_parse.proofs.Steps.{lexed-start, lexed-steps}
use Rattle.ras_parse.proofs.laws.texts_are_read_token_by_token.Goals as goal

pub returns-clause-start : goal.returns-clause-start
returns-clause-start c text = sym (lexed-start text)

pub returns-clause-steps : goal.returns-clause-steps
returns-clause-steps c = lexed-steps
