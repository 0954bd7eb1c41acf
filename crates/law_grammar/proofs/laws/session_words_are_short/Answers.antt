use Rattle.law_grammar.proofs.SessionWords.{few_tokens}
use Rattle.law_grammar.proofs.laws.session_words_are_short.Goals as goal

pub returns : goal.returns
returns c = few_tokens
