use Rattle.std.proofs.Common.{refl}
use Rattle.law_grammar.specs.Readers.{accept_or, bind, choose, give, loop_after, mapped, refuse, turns, with_tokens}
use Rattle.spec_workloads.specs.Outline.{outline_of}
use Rattle.spec_workloads.specs.TypeLines.{type_of_line}
use Rattle.spec_workloads.proofs.worked_outlines.wrong_type_lines.Goals as goal

pub returns-clause-empty : goal.returns-clause-empty
unfolding outline_of type_of_line accept_or bind choose give loop_after mapped refuse turns with_tokens
returns-clause-empty c = refl

pub returns-clause-later : goal.returns-clause-later
unfolding outline_of type_of_line accept_or bind choose give loop_after mapped refuse turns with_tokens
returns-clause-later c = refl

pub returns-clause-words : goal.returns-clause-words
unfolding outline_of type_of_line accept_or bind choose give loop_after mapped refuse turns with_tokens
returns-clause-words c = refl

pub returns-clause-name : goal.returns-clause-name
unfolding outline_of type_of_line accept_or bind choose give loop_after mapped refuse turns with_tokens
returns-clause-name c = refl

pub returns-clause-no_atom : goal.returns-clause-no_atom
unfolding outline_of type_of_line accept_or bind choose give loop_after mapped refuse turns with_tokens
returns-clause-no_atom c = refl

pub returns-clause-no_bounds : goal.returns-clause-no_bounds
unfolding outline_of type_of_line accept_or bind choose give loop_after mapped refuse turns with_tokens
returns-clause-no_bounds c = refl

pub returns-clause-no_interval : goal.returns-clause-no_interval
unfolding outline_of type_of_line accept_or bind choose give loop_after mapped refuse turns with_tokens
returns-clause-no_interval c = refl

pub returns-clause-extent_from_one : goal.returns-clause-extent_from_one
unfolding outline_of type_of_line accept_or bind choose give loop_after mapped refuse turns with_tokens
returns-clause-extent_from_one c = refl

pub returns-clause-extent_from_00 : goal.returns-clause-extent_from_00
unfolding outline_of type_of_line accept_or bind choose give loop_after mapped refuse turns with_tokens
returns-clause-extent_from_00 c = refl

pub returns-clause-order : goal.returns-clause-order
unfolding outline_of type_of_line accept_or bind choose give loop_after mapped refuse turns with_tokens
returns-clause-order c = refl

pub returns-clause-more : goal.returns-clause-more
unfolding outline_of type_of_line accept_or bind choose give loop_after mapped refuse turns with_tokens
returns-clause-more c = refl

pub returns-clause-float : goal.returns-clause-float
unfolding outline_of type_of_line accept_or bind choose give loop_after mapped refuse turns with_tokens
returns-clause-float c = refl

pub returns-clause-number : goal.returns-clause-number
unfolding outline_of type_of_line accept_or bind choose give loop_after mapped refuse turns with_tokens
returns-clause-number c = refl
