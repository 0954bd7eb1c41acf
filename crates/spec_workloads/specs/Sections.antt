-- A workload's text by its headings: lines, the bytes behind each heading, and the statements between their semicolons.
use Rattle.std.specs.Prelude.{ℕ, suc, ◌+◌, ◌==◌, Bool, true, false, not, List, [], ◌∷◌, ◌++◌, length, take}
use Rattle.spec_grammar.specs.Tokens.{Text, after_space, begins_with, first_is, is_blank, is_line_feed, space_length}
use Rattle.std.specs.Prelude.{codes}

-- ---- lines

abbrev pub to_first : ℕ → List Text → List Text
to_first b [] = (b ∷ []) ∷ []
to_first b (text ∷ texts) = (b ∷ text) ∷ texts

-- each with its line feed; the last line may lack it
abbrev pub lines_of : Text → List Text
lines_of [] = []
lines_of (b ∷ bytes) = elim (is_line_feed b) [ true ↦ (b ∷ []) ∷ lines_of bytes | false ↦ to_first b (lines_of bytes) ]

abbrev pub line_feeds : Text → ℕ
line_feeds [] = 0
line_feeds (b ∷ bytes) = elim (is_line_feed b) [ true ↦ suc (line_feeds bytes) | false ↦ line_feeds bytes ]

-- a line without the blanks at its end, of which the line feed is one
abbrev pub unless_blank : ℕ → Text → Text
unless_blank b [] = elim (is_blank b) [ true ↦ [] | false ↦ b ∷ [] ]
unless_blank b (c ∷ text) = b ∷ c ∷ text

abbrev pub without_blank_end : Text → Text
without_blank_end [] = []
without_blank_end (b ∷ bytes) = unless_blank b (without_blank_end bytes)

-- ---- headings

-- a line that begins with #
abbrev pub is_heading : Text → Bool
is_heading = first_is (λ b. b == 35)

-- A heading with its line, counted from 1, and without the blanks at its end; the place behind its line, counted from the
-- text's start; and the bytes behind it, up to the next heading
pub record Section : Type 0 where
  pub line : ℕ
  pub heading : Text
  pub behind : ℕ
  pub body : Text

-- the bytes before the first heading, and the sections
pub record Headed : Type 0 where
  pub front : Text
  pub sections : List Section

-- a line before others
abbrev pub with_line : (line behind : ℕ) → Text → Headed → Headed
with_line line behind text later = elim (is_heading text) [
  | true ↦ record {
    front = [];
    sections = record { line = line; heading = without_blank_end text; behind = behind; body = later.front } ∷ later.sections;
  }
  | false ↦ record { front = text ++ later.front; sections = later.sections }
]

abbrev pub headed_from : (line place : ℕ) → List Text → Headed
headed_from line place [] = record { front = []; sections = [] }
headed_from line place (text ∷ texts) = with_line line (place + length text) text (headed_from (suc line) (place + length text) texts)

abbrev pub headed : Text → Headed
headed text = headed_from 1 0 (lines_of text)

-- ---- statements

-- The bytes between the semicolons that stand in no comment, in one part more than there are of these. A comment goes from
-- -- to the end of its line
abbrev pub parts_of : (in_comment : Bool) → Text → List Text
parts_of in_comment [] = [] ∷ []
parts_of true (b ∷ bytes) = to_first b (parts_of (not (is_line_feed b)) bytes)
parts_of false (b ∷ bytes) = elim (b == 59) [
  | true ↦ [] ∷ parts_of false bytes
  | false ↦ to_first b (parts_of (begins_with (codes "--") (b ∷ bytes)) bytes)
]

-- a statement or a type line: the line of its first byte, and its text without the blanks and comments before it
pub record Piece : Type 0 where
  pub line : ℕ
  pub text : Text

abbrev pub piece_of : ℕ → Text → Piece
piece_of line part = record { line = line + line_feeds (take (space_length false part) part); text = after_space part }

abbrev pub pieces_from : ℕ → List Text → List Piece
pieces_from line [] = []
pieces_from line (part ∷ parts) = piece_of line part ∷ pieces_from (line + line_feeds part) parts

-- the pieces that end with a semicolon, and what stands behind the last of them
pub record Pieces : Type 0 where
  pub closed : List Piece
  pub rest : Piece

abbrev pub parted : Piece → List Piece → Pieces
parted first [] = record { closed = []; rest = first }
parted first (second ∷ pieces) = record { closed = first ∷ (parted second pieces).closed; rest = (parted second pieces).rest }

abbrev pub parted_from : ℕ → List Piece → Pieces
parted_from line [] = record { closed = []; rest = record { line = line; text = [] } }
parted_from line (piece ∷ pieces) = parted piece pieces

-- the pieces of a section's body, which begins on the line behind its heading
abbrev pub pieces_of : Section → Pieces
pieces_of section = parted_from (suc section.line) (pieces_from (suc section.line) (parts_of false section.body))
