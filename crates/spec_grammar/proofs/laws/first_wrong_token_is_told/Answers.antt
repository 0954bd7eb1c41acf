use Rattle.spec_grammar.proofs.Told.{told-unexpected, told-too_deep, told-own, told-ended}
use Rattle.spec_grammar.proofs.laws.first_wrong_token_is_told.Goals as goal

pub returns-clause-unexpected : goal.returns-clause-unexpected
returns-clause-unexpected c = told-unexpected

pub returns-clause-too_deep : goal.returns-clause-too_deep
returns-clause-too_deep c = told-too_deep

pub returns-clause-own : goal.returns-clause-own
returns-clause-own c = told-own

pub returns-clause-ended : goal.returns-clause-ended
returns-clause-ended c = told-ended
