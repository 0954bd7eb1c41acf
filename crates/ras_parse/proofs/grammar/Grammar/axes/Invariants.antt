use Rattle.std.proofs.Common.{length}
use Rattle.law_grammar.specs.Reading.{any_count, axis_read, reads}
use Rattle.ras_parse.specs.Inputs.{left}
use Rattle.ras_parse.proofs.Loops.{InCommas}
use Rattle.ras_parse.proofs.grammar.Grammar.axes.Given as goal

abbrev pub invariant-loop-cursor : goal.invariant-loop-cursor
invariant-loop-cursor g l = InCommas any_count (axis_read (reads l.self.depth)) l.fn.cursor l.all l.cursor

abbrev pub decreases-loop-cursor : goal.decreases-loop-cursor
decreases-loop-cursor g l = length (left l.cursor)
