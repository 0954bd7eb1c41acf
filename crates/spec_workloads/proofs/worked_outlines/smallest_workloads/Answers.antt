use Rattle.std.proofs.Common.{refl}
use Rattle.law_grammar.specs.Readers.{accept_or, bind, choose, give, loop_after, mapped, refuse, turns, with_tokens}
use Rattle.spec_workloads.specs.Outline.{outline_of}
use Rattle.spec_workloads.specs.TypeLines.{type_of_line}
use Rattle.spec_workloads.proofs.worked_outlines.smallest_workloads.Goals as goal

pub returns-clause-empty : goal.returns-clause-empty
unfolding outline_of type_of_line accept_or bind choose give loop_after mapped refuse turns with_tokens
returns-clause-empty c = refl

pub returns-clause-more : goal.returns-clause-more
unfolding outline_of type_of_line accept_or bind choose give loop_after mapped refuse turns with_tokens
returns-clause-more c = refl

pub returns-clause-blanks : goal.returns-clause-blanks
unfolding outline_of type_of_line accept_or bind choose give loop_after mapped refuse turns with_tokens
returns-clause-blanks c = refl
