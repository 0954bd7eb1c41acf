use Rattle.spec_grammar.proofs.Verdicts.{IsVerdict-fault}
use Rattle.spec_grammar.proofs.laws.one_fault_is_told.Goals as goal

pub returns : goal.returns
returns c = IsVerdict-fault
