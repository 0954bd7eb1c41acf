use Rattle.std.proofs.Common.{length}
use Rattle.spec_grammar.specs.Grammar.{w}
use Rattle.law_grammar.specs.Reading.{row_read, arm_rest, reads}
use Rattle.ras_parse.specs.Inputs.{left}
use Rattle.ras_parse.proofs.Loops.{InRow}
use Rattle.ras_parse.proofs.grammar.Grammar.arms.Given as goal

abbrev pub invariant-loop-cursor : goal.invariant-loop-cursor
invariant-loop-cursor g l =
    InRow (w "when") (arm_rest (reads l.self.depth)) (row_read (w "when") (arm_rest (reads l.self.depth)) (left l.fn.cursor)) l.fn.cursor l.all l.cursor

abbrev pub decreases-loop-cursor : goal.decreases-loop-cursor
decreases-loop-cursor g l = length (left l.cursor)
