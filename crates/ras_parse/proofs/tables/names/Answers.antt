use Rattle.std.proofs.Common.{◌∙◌}
use Rattle.spec_grammar.specs.Tokens.{in_small_letters}
use Rattle.ras_parse.proofs.Took.{is_same-sym}
use Rattle.ras_parse.proofs.tables.names.Goals as goal

pub returns : goal.returns
returns c = c.is_word.ensures ∙ is_same-sym (in_small_letters c.args.text.now) c.args.word.now
