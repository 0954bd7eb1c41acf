use Rattle.law_grammar.proofs.Ends.{complete, sound}
use Rattle.law_grammar.proofs.laws.statements_are_read.Goals as goal

pub returns : goal.returns
returns c = λ tokens form. (sound tokens form, complete tokens form)
