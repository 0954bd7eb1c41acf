-- The tokens of the code, as tokens of the definitions.
use Rattle.std.specs.Prelude.{ℕ, ◌<◌, ◌≤◌, Bool, false, List, map, length, slice_range}
use Rattle.spec_grammar.specs.Tokens as spec
use Rattle.spec_grammar.specs.Tokens.{Text, is_same, in_small_letters, Found}
use Rattle.spec_grammar.specs.Verdict.{fault_place}
use Rattle.ras_parse.specs.declared.token.Token.{Token}
use Rattle.ras_parse.specs.declared.token.TokenKind.{TokenKind}
use Rattle.ras_parse.specs.declared.token.TokenKind.TheVariants.{Name, Reserved, Number, Sign}
use Rattle.ras_parse.specs.declared.token.Next.{Next}
use Rattle.ras_parse.specs.declared.token.Next.TheVariants as next

-- what a token is, of these bytes
abbrev pub kind_seen : Text → TokenKind → spec.TokenKind
kind_seen bytes Name = spec.name bytes
kind_seen bytes Reserved = spec.word (in_small_letters bytes)
kind_seen bytes (Number value atom) = spec.number value atom
kind_seen bytes Sign = spec.sign bytes

-- a token of a text
abbrev pub token_in : Text → Token → spec.Token
token_in text t = record { kind = kind_seen (slice_range text t.span.from t.span.to) t.kind; from = t.span.from; to = t.span.to }

-- what a text goes on with
abbrev pub found_in : Text → Next → Found
found_in text next.End = spec.nothing
found_in text (next.Token t) = spec.good (token_in text t)
found_in text (next.Fault f) = spec.bad f

-- a kind is this reserved word
abbrev pub says : Text → spec.TokenKind → Bool
says w (spec.word text) = is_same text w
says w other = false

-- a kind is this sign
abbrev pub shows : Text → spec.TokenKind → Bool
shows s (spec.sign text) = is_same text s
shows s other = false

-- a token has a byte at least and stands in the text
pub record StandsIn (text : Text) (t : Token) : Type 0 where
  pub some : t.span.from < t.span.to
  pub within : t.span.to ≤ length text

-- what is found from a place on lies in the text, and a token has a byte at least
abbrev pub NextLiesIn : Text → ℕ → Next → Type 0
NextLiesIn text at next.End = Unit {0}
NextLiesIn text at (next.Token t) = (at ≤ t.span.from) × StandsIn text t
NextLiesIn text at (next.Fault f) = (at ≤ fault_place f) × (fault_place f < length text)

-- the tokens of a text
abbrev pub tokens_in : Text → List Token → List spec.Token
tokens_in text = map (token_in text)
