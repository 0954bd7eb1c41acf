-- The tokens of a statement's text, up to the first fault of a token of its own. A text is a list of bytes.
use Rattle.std.specs.Prelude.{ℕ, zero, suc, ◌+◌, ◌-◌, ◌*◌, ◌==◌, nat_le, ℤ, pos, Bool, true, false, not, ◌&&◌, ◌||◌, if◌then◌else◌, List, [], ◌∷◌, length, drop, map, find, take_while, Option, Some, None, codes}
use Rattle.std.specs.List.{fold, list_any, starts_with}
use Rattle.std.specs.Cmp.Lexicographic.{pointwise}
use Rattle.ras_cells.specs.declared.atom.Atom.{Atom}
use Rattle.ras_cells.specs.declared.atom.Atom.TheVariants.{Char, Octet, Short, Ushort, Long, Ulong, Wide}
use Rattle.ras_cells.specs.Atoms.{is_in_range}
use Rattle.ras_syntax.specs.declared.faults.SyntaxFault.{SyntaxFault}
use Rattle.ras_syntax.specs.declared.faults.SyntaxFault.TheVariants.{Unexpected, NumberTooWide, UnknownName, FloatRefused}

abbrev pub Text : Type 0
Text = List ℕ

-- ---- bytes

abbrev pub is_between : ℕ → ℕ → ℕ → Bool
is_between low high b = nat_le low b && nat_le b high

abbrev pub is_capital : ℕ → Bool
is_capital b = is_between 65 90 b

abbrev pub is_letter : ℕ → Bool
is_letter b = is_capital b || is_between 97 122 b

abbrev pub is_digit : ℕ → Bool
is_digit b = is_between 48 57 b

-- a name begins with a letter or _
abbrev pub begins_name : ℕ → Bool
begins_name b = is_letter b || b == 95

-- and goes on with letters, _ and digits
abbrev pub continues_name : ℕ → Bool
continues_name b = begins_name b || is_digit b

-- space, tab, carriage return and line feed
abbrev pub is_blank : ℕ → Bool
is_blank b = b == 32 || b == 9 || b == 13 || b == 10

abbrev pub is_line_feed : ℕ → Bool
is_line_feed b = b == 10

-- ---- texts

abbrev pub is_same : Text → Text → Bool
is_same = pointwise ◌==◌

abbrev pub begins_with : Text → Text → Bool
begins_with front text = starts_with ◌==◌ text front

abbrev pub first_is : (ℕ → Bool) → Text → Bool
first_is p [] = false
first_is p (b ∷ bytes) = p b

abbrev pub is_one_of : List Text → Text → Bool
is_one_of texts text = list_any (is_same text) texts

-- a letter as a small one, any other byte as it is
abbrev pub small : ℕ → ℕ
small b = if is_capital b then b + 32 else b

abbrev pub in_small_letters : Text → Text
in_small_letters = map small

-- ---- tokens

pub data TokenKind : Type 0 where
  -- a name with its bytes
  name : Text → TokenKind
  -- a reserved word in small letters
  word : Text → TokenKind
  -- a number with the atom of its suffix; a number without a suffix is wide, and no suffix is
  number : ℤ → Atom → TokenKind
  sign : Text → TokenKind

-- a token stands from its first byte to the byte after its last one, counted from the text's start
pub record Token : Type 0 where
  pub kind : TokenKind
  pub from : ℕ
  pub to : ℕ

-- ---- tables

-- the reserved words; they are written in any mix of large and small letters
abbrev pub reserved_words : List Text
reserved_words =
    codes "select" ∷ codes "from" ∷ codes "where" ∷ codes "as" ∷ codes "insert" ∷ codes "into" ∷ codes "values"
    ∷ codes "update" ∷ codes "set" ∷ codes "assign" ∷ codes "delete" ∷ codes "create" ∷ codes "drop" ∷ codes "collection"
    ∷ codes "marray" ∷ codes "in" ∷ codes "condense" ∷ codes "over" ∷ codes "using"
    ∷ codes "case" ∷ codes "when" ∷ codes "then" ∷ codes "else" ∷ codes "end"
    ∷ codes "overlay" ∷ codes "concat" ∷ codes "with" ∷ codes "along"
    ∷ codes "and" ∷ codes "or" ∷ codes "xor" ∷ codes "not" ∷ codes "true" ∷ codes "false"
    ∷ codes "struct" ∷ codes "shift" ∷ codes "extend" ∷ codes "sdom" ∷ codes "oid"
    ∷ codes "div" ∷ codes "mod" ∷ codes "abs" ∷ codes "bit" ∷ codes "min" ∷ codes "max"
    ∷ codes "add_cells" ∷ codes "min_cells" ∷ codes "max_cells" ∷ codes "count_cells" ∷ codes "some_cells" ∷ codes "all_cells"
    ∷ codes "bool" ∷ codes "boolean" ∷ codes "octet" ∷ codes "char" ∷ codes "short" ∷ codes "ushort"
    ∷ codes "long" ∷ codes "ulong" ∷ codes "wide" ∷ codes "unsigned"
    ∷ codes "begin" ∷ codes "retry" ∷ codes "commit" ∷ codes "anyway" ∷ codes "abort" ∷ []

-- the names that only floats would need; they are written in small letters
abbrev pub float_names : List Text
float_names = codes "float" ∷ codes "double" ∷ codes "complex" ∷ codes "avg_cells" ∷ codes "sqrt" ∷ codes "pow" ∷ []

-- the signs, the longer ones first
abbrev pub signs : List Text
signs =
    codes "!=" ∷ codes "<=" ∷ codes ">="
    ∷ codes "(" ∷ codes ")" ∷ codes "[" ∷ codes "]" ∷ codes "{" ∷ codes "}" ∷ codes "," ∷ codes ":" ∷ codes "."
    ∷ codes "+" ∷ codes "-" ∷ codes "*" ∷ codes "=" ∷ codes "<" ∷ codes ">" ∷ []

-- the suffixes of numbers, in small letters; none is the beginning of another
abbrev pub suffixes : List (Text × Atom)
suffixes =
    (codes "c", Char) ∷ (codes "o", Octet) ∷ (codes "s", Short) ∷ (codes "us", Ushort) ∷ (codes "l", Long) ∷ (codes "ul", Ulong) ∷ []

-- ---- blanks and comments

-- how many bytes before the next token are blanks or of comments; -- begins a comment, which ends with its line
abbrev pub space_length : (in_comment : Bool) → Text → ℕ
space_length in_comment [] = 0
space_length true (b ∷ bytes) = suc (space_length (not (is_line_feed b)) bytes)
space_length false (b ∷ bytes) = elim (is_blank b) [
  | true ↦ suc (space_length false bytes)
  | false ↦ elim (begins_with (codes "--") (b ∷ bytes)) [ true ↦ suc (space_length true bytes) | false ↦ 0 ]
]

-- a text from its next token on
abbrev pub after_space : Text → Text
after_space text = drop (space_length false text) text

-- ---- one token

-- what stands at a place that is no blank and in no comment
pub data Found : Type 0 where
  -- the text's end
  nothing : Found
  good : Token → Found
  -- a fault of the token's own
  bad : SyntaxFault → Found

abbrev pub token : TokenKind → (place : ℕ) → (size : ℕ) → Found
token kind place size = good (record { kind = kind; from = place; to = place + size })

-- letters, _ and digits: a reserved word; else a name. No name that only floats need is one, and there are no functions
-- but the reserved words, so none stands before (
abbrev pub name_at : (place : ℕ) → Text → (rest : Text) → Found
name_at place text rest =
    if is_one_of reserved_words (in_small_letters text) then token (word (in_small_letters text)) place (length text)
    else if is_one_of float_names text then bad (FloatRefused place)
    else if begins_with (codes "(") (after_space rest) then bad (UnknownName place)
    else token (name text) place (length text)

-- the suffix that a text begins with
abbrev pub suffix_of : Text → Text × Atom
suffix_of text = elim (find (λ s. begins_with s.0 text) suffixes) [ Some s ↦ s | None ↦ ([], Wide) ]

-- the value of decimal digits; leading zeros are allowed
abbrev pub value_of : Text → ℕ
value_of = fold (λ value digit. 10 * value + (digit - 48)) 0

-- . and a digit, or e, f or d
abbrev pub is_float_mark : Text → Bool
is_float_mark [] = false
is_float_mark (b ∷ bytes) = (b == 46 && first_is is_digit bytes) || b == 100 || b == 101 || b == 102

-- digits with their suffix, and what follows them at once
abbrev pub number_with : (place : ℕ) → (digits : Text) → Text × Atom → (rest : Text) → Found
number_with place digits suffix rest =
    if not (is_in_range suffix.1 (pos (value_of digits))) then bad (NumberTooWide place)
    else if is_float_mark rest then bad (FloatRefused place)
    else if first_is begins_name rest then bad (Unexpected place)
    else token (number (pos (value_of digits)) suffix.1) place (length digits + length suffix.0)

abbrev pub number_at : (place : ℕ) → (digits : Text) → (rest : Text) → Found
number_at place digits rest = number_with place digits (suffix_of rest) (drop (length (suffix_of rest).0) rest)

-- the first sign of the table that the text begins with, so the longest one; / would give floats, and no other byte begins
-- a token
abbrev pub sign_at : (place : ℕ) → Text → Found
sign_at place text = elim (find (λ s. begins_with s text) signs) [
  | Some s ↦ token (sign s) place (length s)
  | None ↦ if begins_with (codes "/") text then bad (FloatRefused place) else bad (Unexpected place)
]

-- the token that a text begins with
abbrev pub token_at : (place : ℕ) → Text → Found
token_at place [] = nothing
token_at place (b ∷ bytes) =
    let text : Text = b ∷ bytes in
    let letters : Text = take_while continues_name text in
    let digits : Text = take_while is_digit text in
    if begins_name b then name_at place letters (drop (length letters) text)
    else if is_digit b then number_at place digits (drop (length digits) text)
    else sign_at place text

-- ---- all tokens

-- the tokens before the first fault of a token's own, and that fault
pub record Lexed : Type 0 where
  pub tokens : List Token
  pub fault : Option SyntaxFault

abbrev pub and_then : Token → Lexed → Lexed
and_then t more = record { tokens = t ∷ more.tokens; fault = more.fault }

-- the tokens of a text that begins at a place, where there are at most so many
abbrev pub lexed_from : (most : ℕ) → (place : ℕ) → Text → Lexed
lexed_from zero place text = record { tokens = []; fault = None }
lexed_from (suc most) place text = elim (token_at (place + space_length false text) (after_space text)) [
  | nothing ↦ record { tokens = []; fault = None }
  | good t ↦ and_then t (lexed_from most t.to (drop (t.to - place) text))
  | bad fault ↦ record { tokens = []; fault = Some fault }
]

-- the tokens of a text: each has a byte at least, so there are no more than the text has bytes
abbrev pub lexed : Text → Lexed
lexed text = lexed_from (length text) 0 text
