use Rattle.spec_grammar.proofs.Numbers.{numbers_of_statement}
use Rattle.spec_grammar.proofs.laws.statements_have_numbers_in_range.Goals as goal

pub returns : goal.returns
returns c = numbers_of_statement
