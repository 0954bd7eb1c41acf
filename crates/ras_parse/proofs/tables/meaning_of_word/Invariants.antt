use Rattle.std.proofs.Common.{◌≡◌, length}
use Rattle.spec_grammar.specs.Tokens.{TokenKind, in_small_letters}
use Rattle.law_grammar.specs.Readers.{meaning_of}
use Rattle.ras_parse.specs.Tables.{word_entries}
use Rattle.ras_parse.proofs.tables.meaning_of_word.Given as goal

abbrev pub invariant-loop-words : goal.invariant-loop-words
invariant-loop-words g l = meaning_of (word_entries l.words) (TokenKind.word (in_small_letters l.text)) ≡ meaning_of (word_entries l.initial.words) (TokenKind.word (in_small_letters l.text))

abbrev pub decreases-loop-words : goal.decreases-loop-words
decreases-loop-words g l = length l.words
