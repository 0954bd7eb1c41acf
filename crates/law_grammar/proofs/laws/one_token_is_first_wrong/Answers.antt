use Rattle.law_grammar.proofs.Ends.{one_first_wrong}
use Rattle.law_grammar.proofs.laws.one_token_is_first_wrong.Goals as goal

pub returns : goal.returns
returns c = one_first_wrong
