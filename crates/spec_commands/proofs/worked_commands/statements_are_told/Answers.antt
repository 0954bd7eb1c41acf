use Rattle.std.proofs.Common.{refl}
use Rattle.std.specs.Fmt.{digits}
use Rattle.law_grammar.specs.Readers.{accept_or, bind, give, loop_after, mapped, refuse, turns, with_tokens}
use Rattle.law_grammar.specs.Reading.{read_statement}
use Rattle.spec_workloads.specs.Outline.{outline_of}
use Rattle.spec_workloads.specs.TypeLines.{type_of_line}
use Rattle.spec_commands.specs.Commands.{check_command}
use Rattle.spec_commands.proofs.worked_commands.statements_are_told.Goals as goal

pub returns : goal.returns
unfolding accept_or bind check_command digits give loop_after mapped outline_of read_statement refuse turns type_of_line with_tokens
returns c = refl
