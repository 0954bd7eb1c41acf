-- The pieces of a section's body from a line on.
use Rattle.std.specs.Prelude.{ℕ, false, List, [], ◌∷◌}
use Rattle.spec_grammar.specs.Tokens.{Text}
use Rattle.spec_workloads.specs.Sections.{Pieces, parted_from, parts_of, pieces_from}

unfoldable pub pieces_on : (line : ℕ) → Text → Pieces
pieces_on line text = parted_from line (pieces_from line (parts_of false text))

-- the parts behind the first one: none, or a semicolon and what follows it
abbrev pub parts_behind : Text → List Text
parts_behind [] = []
parts_behind (b ∷ bytes) = parts_of false bytes
