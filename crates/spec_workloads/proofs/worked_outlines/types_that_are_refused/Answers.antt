use Rattle.std.proofs.Common.{refl}
use Rattle.law_grammar.specs.Readers.{accept_or, bind, choose, give, loop_after, mapped, refuse, turns, with_tokens}
use Rattle.spec_workloads.specs.Outline.{outline_of}
use Rattle.spec_workloads.specs.TypeLines.{type_of_line}
use Rattle.spec_workloads.proofs.worked_outlines.types_that_are_refused.Goals as goal

pub returns-clause-not_stored : goal.returns-clause-not_stored
unfolding outline_of type_of_line accept_or bind choose give loop_after mapped refuse turns with_tokens
returns-clause-not_stored c = refl

pub returns-clause-taken : goal.returns-clause-taken
unfolding outline_of type_of_line accept_or bind choose give loop_after mapped refuse turns with_tokens
returns-clause-taken c = refl

pub returns-clause-component_taken : goal.returns-clause-component_taken
unfolding outline_of type_of_line accept_or bind choose give loop_after mapped refuse turns with_tokens
returns-clause-component_taken c = refl

pub returns-clause-bound : goal.returns-clause-bound
unfolding outline_of type_of_line accept_or bind choose give loop_after mapped refuse turns with_tokens
returns-clause-bound c = refl

pub returns-clause-bounds : goal.returns-clause-bounds
unfolding outline_of type_of_line accept_or bind choose give loop_after mapped refuse turns with_tokens
returns-clause-bounds c = refl

pub returns-clause-axes : goal.returns-clause-axes
unfolding outline_of type_of_line accept_or bind choose give loop_after mapped refuse turns with_tokens
returns-clause-axes c = refl

pub returns-clause-components : goal.returns-clause-components
unfolding outline_of type_of_line accept_or bind choose give loop_after mapped refuse turns with_tokens
returns-clause-components c = refl

pub returns-clause-intervals : goal.returns-clause-intervals
unfolding outline_of type_of_line accept_or bind choose give loop_after mapped refuse turns with_tokens
returns-clause-intervals c = refl

pub returns-clause-extents : goal.returns-clause-extents
unfolding outline_of type_of_line accept_or bind choose give loop_after mapped refuse turns with_tokens
returns-clause-extents c = refl

pub returns-clause-cells : goal.returns-clause-cells
unfolding outline_of type_of_line accept_or bind choose give loop_after mapped refuse turns with_tokens
returns-clause-cells c = refl

pub returns-clause-null_range : goal.returns-clause-null_range
unfolding outline_of type_of_line accept_or bind choose give loop_after mapped refuse turns with_tokens
returns-clause-null_range c = refl

pub returns-clause-null_order : goal.returns-clause-null_order
unfolding outline_of type_of_line accept_or bind choose give loop_after mapped refuse turns with_tokens
returns-clause-null_order c = refl

pub returns-clause-nulls_meet : goal.returns-clause-nulls_meet
unfolding outline_of type_of_line accept_or bind choose give loop_after mapped refuse turns with_tokens
returns-clause-nulls_meet c = refl

pub returns-clause-composite : goal.returns-clause-composite
unfolding outline_of type_of_line accept_or bind choose give loop_after mapped refuse turns with_tokens
returns-clause-composite c = refl
