use Rattle.std.proofs.Common.{refl}
use Rattle.law_grammar.specs.Readers.{accept_or, bind, choose, give, loop_after, mapped, refuse, turns, with_tokens}
use Rattle.spec_workloads.specs.Outline.{outline_of}
use Rattle.spec_workloads.specs.TypeLines.{type_of_line}
use Rattle.spec_workloads.proofs.worked_outlines.wrong_headings.Goals as goal

pub returns-clause-nothing : goal.returns-clause-nothing
unfolding outline_of type_of_line accept_or bind choose give loop_after mapped refuse turns with_tokens
returns-clause-nothing c = refl

pub returns-clause-title : goal.returns-clause-title
unfolding outline_of type_of_line accept_or bind choose give loop_after mapped refuse turns with_tokens
returns-clause-title c = refl

pub returns-clause-late_title : goal.returns-clause-late_title
unfolding outline_of type_of_line accept_or bind choose give loop_after mapped refuse turns with_tokens
returns-clause-late_title c = refl

pub returns-clause-unknown : goal.returns-clause-unknown
unfolding outline_of type_of_line accept_or bind choose give loop_after mapped refuse turns with_tokens
returns-clause-unknown c = refl

pub returns-clause-types_twice : goal.returns-clause-types_twice
unfolding outline_of type_of_line accept_or bind choose give loop_after mapped refuse turns with_tokens
returns-clause-types_twice c = refl

pub returns-clause-types_late : goal.returns-clause-types_late
unfolding outline_of type_of_line accept_or bind choose give loop_after mapped refuse turns with_tokens
returns-clause-types_late c = refl

pub returns-clause-setup_late : goal.returns-clause-setup_late
unfolding outline_of type_of_line accept_or bind choose give loop_after mapped refuse turns with_tokens
returns-clause-setup_late c = refl

pub returns-clause-no_name : goal.returns-clause-no_name
unfolding outline_of type_of_line accept_or bind choose give loop_after mapped refuse turns with_tokens
returns-clause-no_name c = refl

pub returns-clause-two_blanks : goal.returns-clause-two_blanks
unfolding outline_of type_of_line accept_or bind choose give loop_after mapped refuse turns with_tokens
returns-clause-two_blanks c = refl

pub returns-clause-two_names : goal.returns-clause-two_names
unfolding outline_of type_of_line accept_or bind choose give loop_after mapped refuse turns with_tokens
returns-clause-two_names c = refl

pub returns-clause-word : goal.returns-clause-word
unfolding outline_of type_of_line accept_or bind choose give loop_after mapped refuse turns with_tokens
returns-clause-word c = refl

pub returns-clause-taken : goal.returns-clause-taken
unfolding outline_of type_of_line accept_or bind choose give loop_after mapped refuse turns with_tokens
returns-clause-taken c = refl

pub returns-clause-outside : goal.returns-clause-outside
unfolding outline_of type_of_line accept_or bind choose give loop_after mapped refuse turns with_tokens
returns-clause-outside c = refl

pub returns-clause-in_statement : goal.returns-clause-in_statement
unfolding outline_of type_of_line accept_or bind choose give loop_after mapped refuse turns with_tokens
returns-clause-in_statement c = refl

pub returns-clause-in_type : goal.returns-clause-in_type
unfolding outline_of type_of_line accept_or bind choose give loop_after mapped refuse turns with_tokens
returns-clause-in_type c = refl
