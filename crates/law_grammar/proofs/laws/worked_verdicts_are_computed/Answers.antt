use Rattle.spec_grammar.proofs.Misplaced.{ended_after_from, quotient, nine_in_braces}
use Rattle.spec_grammar.proofs.Refusals.{empty, most_retries, too_many_retries, own_fault, too_many_openings}
use Rattle.law_grammar.proofs.EachVerdict.{is_verdict_of}
use Rattle.law_grammar.proofs.laws.worked_verdicts_are_computed.Goals as goal

pub returns-clause-empty : goal.returns-clause-empty
returns-clause-empty c = is_verdict_of _ _ empty

pub returns-clause-most_retries : goal.returns-clause-most_retries
returns-clause-most_retries c = is_verdict_of _ _ most_retries

pub returns-clause-too_many_retries : goal.returns-clause-too_many_retries
returns-clause-too_many_retries c = is_verdict_of _ _ too_many_retries

pub returns-clause-own : goal.returns-clause-own
returns-clause-own c = is_verdict_of _ _ own_fault

pub returns-clause-too_deep : goal.returns-clause-too_deep
returns-clause-too_deep c = is_verdict_of _ _ too_many_openings

pub returns-clause-no_source : goal.returns-clause-no_source
returns-clause-no_source c = is_verdict_of _ _ ended_after_from

pub returns-clause-quotient : goal.returns-clause-quotient
returns-clause-quotient c = is_verdict_of _ _ quotient

pub returns-clause-nine_in_braces : goal.returns-clause-nine_in_braces
returns-clause-nine_in_braces c = is_verdict_of _ _ nine_in_braces
