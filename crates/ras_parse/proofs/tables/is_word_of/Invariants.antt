use Rattle.std.proofs.Common.{◌≡◌, length}
use Rattle.spec_grammar.specs.Tokens.{is_one_of, in_small_letters}
use Rattle.ras_parse.specs.Tables.{words_in}
use Rattle.ras_parse.proofs.tables.is_word_of.Given as goal

abbrev pub invariant-loop-words : goal.invariant-loop-words
invariant-loop-words l = is_one_of (words_in l.words) (in_small_letters l.text) ≡ is_one_of (words_in l.initial.words) (in_small_letters l.text)

abbrev pub decreases-loop-words : goal.decreases-loop-words
decreases-loop-words l = length l.words
