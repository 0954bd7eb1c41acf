-- Functions that read tokens from the front of a list, and what they are made of.
use Rattle.std.specs.Prelude.{ℕ, zero, suc, ◌-◌, Bool as Truth, true, false, List, [], ◌∷◌, ◌++◌, length, take, Option, Some, None, Result, Ok, Err}
use Rattle.ras_syntax.specs.declared.expr.Expr.{Expr}
use Rattle.ras_syntax.specs.declared.expr.ExprForm.{ExprForm}
use Rattle.spec_grammar.specs.Tokens.{is_same, TokenKind, name, word, number, sign, Token}
use Rattle.spec_grammar.specs.Grammar.{Table, tree}

-- what was read with the tokens after it, or the tokens from the first wrong one on
abbrev pub ReadOutcome : Type 0 → Type 0
ReadOutcome A = Result (A × List Token) (List Token)

abbrev pub Reader : Type 0 → Type 0
Reader A = List Token → ReadOutcome A

-- ---- single tokens

-- words and signs are compared; no name and no number is the same as a kind
abbrev pub same_kind : TokenKind → TokenKind → Truth
same_kind (name a) other = false
same_kind (number z a) other = false
same_kind (word a) (name b) = false
same_kind (word a) (word b) = is_same a b
same_kind (word a) (number z b) = false
same_kind (word a) (sign b) = false
same_kind (sign a) (name b) = false
same_kind (sign a) (word b) = false
same_kind (sign a) (number z b) = false
same_kind (sign a) (sign b) = is_same a b

-- the token, where it is this word or sign
abbrev pub exactly : TokenKind → Token → Option Token
exactly kind t = elim (same_kind kind t.kind) [ true ↦ Some t | false ↦ None ]

-- what a word or a sign stands for in a table
abbrev pub meaning_of : {A : Type 0} → Table A → TokenKind → Option A
meaning_of [] kind = None
meaning_of (entry ∷ table) kind = elim (same_kind entry.0 kind) [ true ↦ Some entry.1 | false ↦ meaning_of table kind ]

abbrev pub meant : {A : Type 0} → Table A → Token → Option A
meant table t = meaning_of table t.kind

-- ---- readers

-- what was read goes on, and a wrong token stays the answer
abbrev pub then_read : {A B : Type 0} → ReadOutcome A → (A → Reader B) → ReadOutcome B
then_read (Ok p) g = g p.0 p.1
then_read (Err rest) g = Err rest

-- reads nothing
unfoldable pub give : {A : Type 0} → A → Reader A
give x s = Ok (x, s)

-- the next token is wrong
unfoldable pub refuse : {A : Type 0} → Reader A
refuse s = Err s

-- reads one thing, and then what may depend on it
unfoldable pub bind : {A B : Type 0} → Reader A → (A → Reader B) → Reader B
bind f g s = then_read (f s) g

unfoldable pub mapped : {A B : Type 0} → (A → B) → Reader A → Reader B
mapped h f s = then_read (f s) (λ x rest. Ok (h x, rest))

-- where the next token is accepted, what follows it; else the other
unfoldable pub accept_or : {A B : Type 0} → (Token → Option A) → (A → Reader B) → Reader B → Reader B
accept_or p g f [] = f []
accept_or p g f (t ∷ s) = elim (p t) [ Some x ↦ g x s | None ↦ f (t ∷ s) ]

abbrev pub accept : {A B : Type 0} → (Token → Option A) → (A → Reader B) → Reader B
accept p g = accept_or p g refuse

-- this token, and what follows it
abbrev pub expect : {A : Type 0} → TokenKind → Reader A → Reader A
expect kind f = accept (exactly kind) (λ t. f)

-- one or the other by the next token, which is not yet read
unfoldable pub choose : {A : Type 0} → (Token → Truth) → Reader A → Reader A → Reader A
choose p f g [] = g []
choose p f g (t ∷ s) = elim (p t) [ true ↦ f (t ∷ s) | false ↦ g (t ∷ s) ]

-- the tokens before those that are left
abbrev pub before : List Token → List Token → List Token
before s rest = take (length s - length rest) s

-- reads what is still to be told the tokens that it was read from
unfoldable pub with_tokens : {A : Type 0} → Reader (List Token → A) → Reader A
with_tokens f s = then_read (f s) (λ told rest. Ok (told (before s rest), rest))

-- a form with the span of its tokens, and of those that were read before it
abbrev pub spanned_after : List Token → Reader ExprForm → Reader Expr
spanned_after already f = with_tokens (mapped (λ form ts. tree (already ++ ts) form) f)

abbrev pub with_span : Reader ExprForm → Reader Expr
with_span f = with_tokens (mapped (λ form ts. tree ts form) f)

-- So many turns at most: while the next token goes on, what follows it. The start is the list before what was first read.
unfoldable pub turns : {A B : Type 0} → (A → Token → Option B) → (A → B → Reader (List Token → A)) → ℕ → (start : List Token) → A → Reader A
turns next step zero start x s = Ok (x, s)
turns next step (suc most) start x [] = Ok (x, [])
turns next step (suc most) start x (t ∷ s) = elim (next x t) [
  | Some b ↦ then_read (step x b s) (λ told rest. turns next step most start (told (before start rest)) rest)
  | None ↦ Ok (x, t ∷ s)
]

-- The first item, and turns as long as the tokens go on; each turn takes a token, so there are no more turns than tokens.
-- Some tokens were already read before the first item.
unfoldable pub loop_after : {A B : Type 0} → List Token → Reader A → (A → Token → Option B) → (A → B → Reader (List Token → A)) → Reader A
loop_after already first next step s = then_read (first s) (λ x rest. turns next step (length rest) (already ++ s) x rest)

abbrev pub loop : {A B : Type 0} → Reader A → (A → Token → Option B) → (A → B → Reader (List Token → A)) → Reader A
loop first next step = loop_after [] first next step
