use Rattle.std.proofs.Common.{length}
use Rattle.law_grammar.specs.Reading.{reads}
use Rattle.ras_parse.specs.Inputs.{left}
use Rattle.ras_parse.proofs.Loops.{InParts}
use Rattle.ras_parse.proofs.grammar.Grammar.parts.Given as goal

abbrev pub invariant-loop-is_index : goal.invariant-loop-is_index
invariant-loop-is_index g l = InParts (reads l.self.depth) l.start l.fn.of l.fn.cursor l.e l.cursor

abbrev pub decreases-loop-is_index : goal.decreases-loop-is_index
decreases-loop-is_index g l = length (left l.cursor)
