use Rattle.spec_grammar.proofs.Refusals.{empty, most_retries, too_many_retries, own_fault, too_many_openings}
use Rattle.spec_grammar.proofs.worked_texts.verdicts_are_told.Goals as goal

pub returns-clause-empty : goal.returns-clause-empty
returns-clause-empty c = empty

pub returns-clause-most_retries : goal.returns-clause-most_retries
returns-clause-most_retries c = most_retries

pub returns-clause-too_many_retries : goal.returns-clause-too_many_retries
returns-clause-too_many_retries c = too_many_retries

pub returns-clause-own : goal.returns-clause-own
returns-clause-own c = own_fault

pub returns-clause-too_deep : goal.returns-clause-too_deep
returns-clause-too_deep c = too_many_openings
