use Rattle.std.proofs.Common.{refl}
use Rattle.std.specs.Fmt.{digits}
use Rattle.law_grammar.specs.Readers.{accept_or, bind, give, loop_after, mapped, refuse, turns, with_tokens}
use Rattle.law_grammar.specs.Reading.{read_statement}
use Rattle.spec_workloads.specs.Outline.{outline_of}
use Rattle.spec_workloads.specs.TypeLines.{type_of_line}
use Rattle.spec_workloads.proofs.worked_workloads.texts_are_refused.Goals as goal

pub returns-clause-check : goal.returns-clause-check
unfolding accept_or bind digits give loop_after mapped outline_of read_statement refuse turns type_of_line with_tokens
returns-clause-check c = refl

pub returns-clause-word : goal.returns-clause-word
unfolding accept_or bind digits give loop_after mapped outline_of read_statement refuse turns type_of_line with_tokens
returns-clause-word c = refl

pub returns-clause-syntax : goal.returns-clause-syntax
unfolding accept_or bind digits give loop_after mapped outline_of read_statement refuse turns type_of_line with_tokens
returns-clause-syntax c = refl

pub returns-clause-no_text : goal.returns-clause-no_text
unfolding accept_or bind digits give loop_after mapped outline_of read_statement refuse turns type_of_line with_tokens
returns-clause-no_text c = refl

pub returns-clause-of_type : goal.returns-clause-of_type
unfolding accept_or bind digits give loop_after mapped outline_of read_statement refuse turns type_of_line with_tokens
returns-clause-of_type c = refl

pub returns-clause-cut : goal.returns-clause-cut
unfolding accept_or bind digits give loop_after mapped outline_of read_statement refuse turns type_of_line with_tokens
returns-clause-cut c = refl
