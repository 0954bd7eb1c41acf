use Rattle.std.proofs.Common.{refl}
use Rattle.std.specs.Fmt.{digits}
use Rattle.law_grammar.specs.Readers.{accept_or, bind, choose, give, loop_after, mapped, refuse, turns, with_tokens}
use Rattle.spec_workloads.specs.Outline.{outline_of}
use Rattle.spec_workloads.specs.TypeLines.{type_of_line}
use Rattle.spec_workloads.proofs.worked_outlines.limits_of_workloads.Goals as goal

pub returns-clause-sessions : goal.returns-clause-sessions
unfolding digits outline_of type_of_line accept_or bind choose give loop_after mapped refuse turns with_tokens
returns-clause-sessions c = refl

pub returns-clause-statements : goal.returns-clause-statements
unfolding digits outline_of type_of_line accept_or bind choose give loop_after mapped refuse turns with_tokens
returns-clause-statements c = refl

pub returns-clause-cut : goal.returns-clause-cut
unfolding digits outline_of type_of_line accept_or bind choose give loop_after mapped refuse turns with_tokens
returns-clause-cut c = refl
