-- How deep a statement may nest, counted by its tokens.
use Rattle.std.specs.Prelude.{ℕ, ◌+◌, if◌then◌else◌, List, [], ◌∷◌, codes}
use Rattle.spec_grammar.specs.Tokens.{Text, is_one_of, TokenKind, name, word, number, sign, Token}

-- the signs that open a form and are closed by another
abbrev pub opening_signs : List Text
opening_signs = codes "(" ∷ codes "[" ∷ codes "{" ∷ []

-- the other signs and the words that stand for a form which nests
abbrev pub nesting_signs : List Text
nesting_signs =
    codes "." ∷ codes "+" ∷ codes "-" ∷ codes "*"
    ∷ codes "=" ∷ codes "!=" ∷ codes "<" ∷ codes "<=" ∷ codes ">" ∷ codes ">=" ∷ []

abbrev pub nesting_words : List Text
nesting_words =
    codes "not" ∷ codes "overlay" ∷ codes "and" ∷ codes "or" ∷ codes "xor"
    ∷ codes "case" ∷ codes "marray" ∷ codes "condense" ∷ codes "concat" ∷ []

abbrev pub weight_of_kind : TokenKind → ℕ
weight_of_kind (name text) = 0
weight_of_kind (word text) = if is_one_of nesting_words text then 1 else 0
weight_of_kind (number value atom) = 0
weight_of_kind (sign text) = if is_one_of opening_signs text then 2 else if is_one_of nesting_signs text then 1 else 0

abbrev pub weight_of : List Token → ℕ
weight_of [] = 0
weight_of (t ∷ ts) = weight_of_kind t.kind + weight_of ts
