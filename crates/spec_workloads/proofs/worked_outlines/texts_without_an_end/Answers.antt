use Rattle.std.proofs.Common.{refl}
use Rattle.law_grammar.specs.Readers.{accept_or, bind, choose, give, loop_after, mapped, refuse, turns, with_tokens}
use Rattle.spec_workloads.specs.Outline.{outline_of}
use Rattle.spec_workloads.specs.TypeLines.{type_of_line}
use Rattle.spec_workloads.proofs.worked_outlines.texts_without_an_end.Goals as goal

pub returns-clause-title : goal.returns-clause-title
unfolding outline_of type_of_line accept_or bind choose give loop_after mapped refuse turns with_tokens
returns-clause-title c = refl

pub returns-clause-statement : goal.returns-clause-statement
unfolding outline_of type_of_line accept_or bind choose give loop_after mapped refuse turns with_tokens
returns-clause-statement c = refl

pub returns-clause-of_type : goal.returns-clause-of_type
unfolding outline_of type_of_line accept_or bind choose give loop_after mapped refuse turns with_tokens
returns-clause-of_type c = refl
