use Rattle.std.proofs.Common.{refl}
use Rattle.std.specs.Fmt.{digits}
use Rattle.law_grammar.specs.Readers.{accept_or, bind, give, loop_after, mapped, refuse, turns, with_tokens}
use Rattle.law_grammar.specs.Reading.{read_statement}
use Rattle.spec_workloads.specs.Outline.{outline_of}
use Rattle.spec_workloads.specs.TypeLines.{type_of_line}
use Rattle.spec_commands.specs.Commands.{check_command}
use Rattle.spec_commands.proofs.worked_commands.blanks_may_follow.Goals as goal

pub returns-clause-nothing : goal.returns-clause-nothing
unfolding accept_or bind check_command digits give loop_after mapped outline_of read_statement refuse turns type_of_line with_tokens
returns-clause-nothing c = refl

pub returns-clause-blanks : goal.returns-clause-blanks
unfolding accept_or bind check_command digits give loop_after mapped outline_of read_statement refuse turns type_of_line with_tokens
returns-clause-blanks c = refl

pub returns-clause-unended : goal.returns-clause-unended
unfolding accept_or bind check_command digits give loop_after mapped outline_of read_statement refuse turns type_of_line with_tokens
returns-clause-unended c = refl

pub returns-clause-comment : goal.returns-clause-comment
unfolding accept_or bind check_command digits give loop_after mapped outline_of read_statement refuse turns type_of_line with_tokens
returns-clause-comment c = refl

pub returns-clause-later : goal.returns-clause-later
unfolding accept_or bind check_command digits give loop_after mapped outline_of read_statement refuse turns type_of_line with_tokens
returns-clause-later c = refl
