use Rattle.std.proofs.Common.{◌≡◌, drop}
use Rattle.spec_grammar.specs.Tokens.{is_same, in_small_letters}
use Rattle.ras_parse.proofs.tables.is_word.Given as goal

abbrev pub invariant-loop-at : goal.invariant-loop-at
invariant-loop-at l =
    is_same (in_small_letters (drop l.at l.text)) (drop l.at l.word) ≡ is_same (in_small_letters l.text) l.word
