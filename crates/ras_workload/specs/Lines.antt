-- How far lines and statements reach.
use Rattle.std.specs.Prelude.{ℕ, suc, ◌==◌, Bool, true, false, not, [], ◌∷◌, codes}
use Rattle.spec_grammar.specs.Tokens.{Text, begins_with, is_line_feed}

-- how many bytes the first line takes, its line feed among them
abbrev pub line_length : Text → ℕ
line_length [] = 0
line_length (b ∷ bytes) = elim (is_line_feed b) [ true ↦ 1 | false ↦ suc (line_length bytes) ]

-- how many bytes stand before the first semicolon that is in no comment
abbrev pub part_length : (in_comment : Bool) → Text → ℕ
part_length in_comment [] = 0
part_length true (b ∷ bytes) = suc (part_length (not (is_line_feed b)) bytes)
part_length false (b ∷ bytes) = elim (b == 59) [ true ↦ 0 | false ↦ suc (part_length (begins_with (codes "--") (b ∷ bytes)) bytes) ]
