use Rattle.law_grammar.proofs.Ends.{first_wrong, is_first_wrong}
use Rattle.law_grammar.proofs.laws.the_first_wrong_token_is_found.Goals as goal

pub returns : goal.returns
returns c = λ tokens rest. (first_wrong tokens rest, is_first_wrong tokens rest)
