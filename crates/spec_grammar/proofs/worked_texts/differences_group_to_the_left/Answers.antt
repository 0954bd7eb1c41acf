use Rattle.spec_grammar.proofs.Readings.{left_difference, right_difference}
use Rattle.spec_grammar.proofs.worked_texts.differences_group_to_the_left.Goals as goal

pub returns-clause-left : goal.returns-clause-left
returns-clause-left c = left_difference

pub returns-clause-right : goal.returns-clause-right
returns-clause-right c = right_difference
