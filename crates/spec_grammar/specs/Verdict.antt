-- What a text is: a statement with its tree, or the fault of least place.
use Rattle.std.specs.Prelude.{◌≡◌, ℕ, ◌<◌, ◌≤◌, List, [], ◌∷◌, ◌++◌, ◌⊎◌, length, Some, None, Result, Ok, Err}
use Rattle.ras_syntax.specs.declared.faults.SyntaxFault.{SyntaxFault}
use Rattle.ras_syntax.specs.declared.faults.SyntaxFault.TheVariants.{Unexpected, NumberTooWide, TooDeep, UnknownName, FloatRefused}
use Rattle.ras_syntax.specs.declared.statement.Statement.{Statement}
use Rattle.ras_syntax.specs.declared.statement.StatementForm.{StatementForm}
use Rattle.spec_grammar.specs.Tokens.{Text, Token, lexed}
use Rattle.spec_grammar.specs.Weight.{weight_of}
use Rattle.spec_grammar.specs.Grammar.{IsStatement}
use Rattle.ras_syntax.specs.declared.limits.TheConstants.{MAX_WEIGHT}

-- a statement, of any weight, begins with these tokens; the places of those that go on are of no matter
abbrev pub BeginsStatement : List Token → Type 0
BeginsStatement ts = (more : List Token) × (form : StatementForm) × IsStatement (ts ++ more) form

-- the faults that a text has
pub data HasSyntaxFault (text : Text) : SyntaxFault → Type 0 where
  -- the first fault of a token's own
  own : (fault : SyntaxFault) → (lexed text).fault ≡ Some fault → HasSyntaxFault text fault
  -- the first token with which no statement begins
  unexpected : (before after : List Token) (t : Token) → (lexed text).tokens ≡ before ++ t ∷ after
      → BeginsStatement before → ¬ BeginsStatement (before ++ t ∷ []) → HasSyntaxFault text (Unexpected t.from)
  -- the text's end counts as a last token
  ended : (lexed text).fault ≡ None → BeginsStatement (lexed text).tokens
      → ((form : StatementForm) → ¬ IsStatement (lexed text).tokens form) → HasSyntaxFault text (Unexpected (length text))
  -- the first token with which the text weighs too much
  too_deep : (before after : List Token) (t : Token) → (lexed text).tokens ≡ before ++ t ∷ after
      → weight_of before ≤ MAX_WEIGHT → MAX_WEIGHT < weight_of (before ++ t ∷ []) → HasSyntaxFault text (TooDeep t.from)

abbrev pub fault_place : SyntaxFault → ℕ
fault_place (Unexpected place) = place
fault_place (NumberTooWide place) = place
fault_place (TooDeep place) = place
fault_place (UnknownName place) = place
fault_place (FloatRefused place) = place

-- at one place a token's own fault comes first, then Unexpected, then TooDeep
abbrev pub fault_rank : SyntaxFault → ℕ
fault_rank (NumberTooWide place) = 0
fault_rank (FloatRefused place) = 0
fault_rank (UnknownName place) = 0
fault_rank (Unexpected place) = 1
fault_rank (TooDeep place) = 2

-- the fault isn't after the other
abbrev pub IsFirstOf : SyntaxFault → SyntaxFault → Type 0
IsFirstOf f g = (fault_place f < fault_place g) ⊎ (fault_place f ≡ fault_place g) × (fault_rank f ≤ fault_rank g)

-- a text is of the grammar, with this tree, where its tokens are a statement and weigh at most 127; else it has the first
-- of its faults
pub data IsVerdict (text : Text) : Result Statement SyntaxFault → Type 0 where
  statement : (form : StatementForm) → (lexed text).fault ≡ None → IsStatement (lexed text).tokens form
      → weight_of (lexed text).tokens ≤ MAX_WEIGHT
      → IsVerdict text (Ok (record { form = form; length = length text }))
  fault : (f : SyntaxFault) → HasSyntaxFault text f → ((g : SyntaxFault) → HasSyntaxFault text g → IsFirstOf f g) → IsVerdict text (Err f)
