-- The tables of the code, as lists.
use Rattle.std.specs.Prelude.{List, map, ◌++◌}
use denote.Ref.{Bor}
use Rattle.ras_cells.specs.declared.atom.Atom.{Atom}
use Rattle.spec_grammar.specs.Tokens.{Text, TokenKind}
use Rattle.spec_grammar.specs.Grammar.{Table}
use Rattle.ras_parse.specs.declared.tables.Table as code

abbrev pub words_in : List (Bor Text) → List Text
words_in = map (λ w. w.now)

abbrev pub suffix_entries : List (Bor Text × Atom) → List (Text × Atom)
suffix_entries = map (λ s. (s.0.now, s.1))

abbrev pub word_entries : {A : Type 0} → List (Bor Text × A) → Table A
word_entries = map (λ e. (TokenKind.word e.0.now, e.1))

abbrev pub sign_entries : {A : Type 0} → List (Bor Text × A) → Table A
sign_entries = map (λ e. (TokenKind.sign e.0.now, e.1))

abbrev pub table_of : {A : Type 0} → code.Table A → Table A
table_of table = sign_entries table.signs.now ++ word_entries table.words.now
