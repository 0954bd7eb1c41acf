use Rattle.spec_grammar.proofs.Readings.{select_1}
use Rattle.spec_grammar.proofs.worked_texts.selecting_a_number_is_a_statement.Goals as goal

pub returns : goal.returns
returns c = select_1
