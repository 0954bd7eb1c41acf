use Rattle.std.proofs.Common.{◌≡◌, length}
use Rattle.spec_grammar.specs.Tokens.{TokenKind}
use Rattle.law_grammar.specs.Readers.{meaning_of}
use Rattle.ras_parse.specs.Tables.{sign_entries}
use Rattle.ras_parse.proofs.tables.meaning_of_sign.Given as goal

abbrev pub invariant-loop-signs : goal.invariant-loop-signs
invariant-loop-signs g l = meaning_of (sign_entries l.signs) (TokenKind.sign l.text) ≡ meaning_of (sign_entries l.initial.signs) (TokenKind.sign l.text)

abbrev pub decreases-loop-signs : goal.decreases-loop-signs
decreases-loop-signs g l = length l.signs
