use Rattle.spec_grammar.proofs.Misplaced.{ended_after_from, quotient, nine_in_braces}
use Rattle.spec_grammar.proofs.worked_texts.wrong_selects_are_told.Goals as goal

pub returns-clause-no_source : goal.returns-clause-no_source
returns-clause-no_source c = ended_after_from

pub returns-clause-quotient : goal.returns-clause-quotient
returns-clause-quotient c = quotient

pub returns-clause-nine_in_braces : goal.returns-clause-nine_in_braces
returns-clause-nine_in_braces c = nine_in_braces
