use Rattle.std.proofs.Common.{refl}
use Rattle.law_grammar.specs.Readers.{accept_or, bind, choose, give, loop_after, mapped, refuse, turns, with_tokens}
use Rattle.spec_workloads.specs.Outline.{outline_of}
use Rattle.spec_workloads.specs.TypeLines.{type_of_line}
use Rattle.spec_workloads.proofs.worked_outlines.cut_workloads.Goals as goal

pub returns : goal.returns
unfolding outline_of type_of_line accept_or bind choose give loop_after mapped refuse turns with_tokens
returns c = record { fronts = refl }
