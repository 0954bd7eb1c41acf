use Rattle.std.proofs.Common.{length}
use Rattle.spec_grammar.specs.Grammar.{overlays}
use Rattle.law_grammar.specs.Reading.{either_read, reads}
use Rattle.ras_parse.specs.Inputs.{left}
use Rattle.ras_parse.proofs.Loops.{InChain}
use Rattle.ras_parse.proofs.grammar.Grammar.overlaid.Given as goal

abbrev pub invariant-loop-op : goal.invariant-loop-op
invariant-loop-op g l = InChain overlays (either_read (reads l.self.depth)) l.fn.cursor l.e l.cursor

abbrev pub decreases-loop-op : goal.decreases-loop-op
decreases-loop-op g l = length (left l.cursor)
