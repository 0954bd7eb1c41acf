-- The words in which worked texts are stated.
use Rattle.std.specs.Prelude.{◌≡◌, ℕ, ◌++◌, List, ◌∷◌, replicate, Some, None, pos}
use Rattle.ras_cells.specs.declared.atom.Atom.TheVariants.{Wide}
use Rattle.ras_syntax.specs.declared.faults.SyntaxFault.{SyntaxFault}
use Rattle.ras_syntax.specs.declared.span.Span.{Span}
use Rattle.ras_syntax.specs.declared.span.Spanned.{Spanned}
use Rattle.ras_syntax.specs.declared.expr.Expr.{Expr, roll-Expr}
use Rattle.ras_syntax.specs.declared.expr.ExprForm.{ExprForm}
use Rattle.ras_syntax.specs.declared.expr.ExprForm.TheVariants as forms
use Rattle.spec_grammar.specs.Tokens.{Text, TokenKind, number, Token, lexed}
use Rattle.spec_grammar.specs.Grammar.{s}

abbrev pub token_from : TokenKind → ℕ → ℕ → Token
token_from kind from to = record { kind = kind; from = from; to = to }

-- the text has these tokens and no fault of a token's own
abbrev pub AreTokensOf : Text → List Token → Type 0
AreTokensOf text ts = lexed text ≡ record { tokens = ts; fault = None }

-- the text has these tokens before this first fault of a token's own
abbrev pub IsFaultOf : Text → List Token → SyntaxFault → Type 0
IsFaultOf text ts fault = lexed text ≡ record { tokens = ts; fault = Some fault }

abbrev pub span_in_text : ℕ → ℕ → Span
span_in_text from to = record { from = from; to = to }

abbrev pub spanned : Text → ℕ → ℕ → Spanned
spanned text from to = record { name = text; span = span_in_text from to }

abbrev pub expr_in : ℕ → ℕ → ExprForm → Expr
expr_in from to form = roll-Expr (record { span = span_in_text from to; form = form })

-- a number in so many parentheses, without regard to places
abbrev pub in_parentheses : ℕ → List Token
in_parentheses n = replicate n (token_from (s "(") 0 1) ++ token_from (number (pos 1) Wide) 1 2 ∷ replicate n (token_from (s ")") 2 3)

-- a number without a suffix
abbrev pub number_in : ℕ → ℕ → ℕ → Expr
number_in n from to = expr_in from to (forms.Number (pos n) Wide)

-- an iterator or a variable
abbrev pub name_in : Text → ℕ → ℕ → Expr
name_in text from to = expr_in from to (forms.Name text)
