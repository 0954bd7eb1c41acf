use Rattle.std.proofs.Common.{length}
use Rattle.spec_grammar.specs.Grammar.{products}
use Rattle.law_grammar.specs.Reading.{signed_read, reads}
use Rattle.ras_parse.specs.Inputs.{left}
use Rattle.ras_parse.proofs.Loops.{InChain}
use Rattle.ras_parse.proofs.grammar.Grammar.product.Given as goal

abbrev pub invariant-loop-op : goal.invariant-loop-op
invariant-loop-op g l = InChain products (signed_read (reads l.self.depth)) l.fn.cursor l.e l.cursor

abbrev pub decreases-loop-op : goal.decreases-loop-op
decreases-loop-op g l = length (left l.cursor)
