use Rattle.std.proofs.Common.{length}
use Rattle.law_grammar.specs.Reading.{any_count}
use Rattle.ras_parse.specs.Inputs.{left}
use Rattle.ras_parse.proofs.Loops.{InCommas}
use Rattle.ras_workload.specs.TypeParts.{null_read}
use Rattle.ras_workload.proofs.type_parts.all_nulls.Given as goal

abbrev pub invariant-loop-alloc : goal.invariant-loop-alloc
invariant-loop-alloc l = InCommas any_count null_read l.fn.cursor l.items l.cursor

abbrev pub decreases-loop-alloc : goal.decreases-loop-alloc
decreases-loop-alloc l = length (left l.cursor)
