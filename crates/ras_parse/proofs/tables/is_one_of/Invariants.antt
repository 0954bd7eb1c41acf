use Rattle.std.proofs.Common.{◌≡◌, length}
use Rattle.spec_grammar.specs.Tokens.{is_one_of}
use Rattle.ras_parse.specs.Tables.{words_in}
use Rattle.ras_parse.proofs.tables.is_one_of.Given as goal

abbrev pub invariant-loop-names : goal.invariant-loop-names
invariant-loop-names l = is_one_of (words_in l.names) l.text ≡ is_one_of (words_in l.initial.names) l.text

abbrev pub decreases-loop-names : goal.decreases-loop-names
decreases-loop-names l = length l.names
