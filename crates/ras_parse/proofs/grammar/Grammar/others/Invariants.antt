use Rattle.std.proofs.Common.{List, length}
use Rattle.ras_syntax.specs.declared.expr.Expr.{Expr}
use Rattle.spec_grammar.specs.Grammar.{any, w}
use Rattle.law_grammar.specs.Reading.{row_read, reads}
use Rattle.ras_parse.specs.Inputs.{left}
use Rattle.ras_parse.proofs.Loops.{InRow, Behind}
use Rattle.ras_parse.proofs.grammar.Grammar.others.Given as goal

abbrev pub invariant-loop-cursor : goal.invariant-loop-cursor
invariant-loop-cursor g l =
    Behind (λ (xs : List Expr). InRow (w "with") (reads l.self.depth any) (row_read (w "with") (reads l.self.depth any) (left l.fn.cursor)) l.fn.cursor xs l.cursor)
    l.fn.first l.all

abbrev pub decreases-loop-cursor : goal.decreases-loop-cursor
decreases-loop-cursor g l = length (left l.cursor)
