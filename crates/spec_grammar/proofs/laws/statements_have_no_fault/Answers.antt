use Rattle.spec_grammar.proofs.Verdicts.{IsVerdict-statement}
use Rattle.spec_grammar.proofs.laws.statements_have_no_fault.Goals as goal

pub returns : goal.returns
returns c = IsVerdict-statement
