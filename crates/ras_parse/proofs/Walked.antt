-- What is read so far, and what is left.
use Rattle.std.specs.Prelude.{◌≡◌, ℕ, suc, ◌+◌, ◌-◌, ◌<◌, ◌≤◌, List, [], ◌∷◌, ◌++◌, length}
use Rattle.std.proofs.Common.{refl, sym, ap, ◌∙◌, append_assoc, arith}
use Rattle.std.proofs.lemmas.List.{map-append}
use Rattle.spec_grammar.specs.Weight.{weight_of, weight_of_kind}
use Rattle.ras_syntax.specs.declared.limits.TheConstants.{MAX_WEIGHT}
use Rattle.spec_grammar.proofs.Verdicts.{weight_of-append}
use Rattle.ras_parse.specs.declared.reading.Behind.TheVariants as Behind
use Rattle.ras_parse.specs.Reading.{IsFront}
use Rattle.ras_parse.specs.Seen.{token_in, tokens_in, NextLiesIn}
use Rattle.ras_parse.specs.Walk.{lexed_after, lexed_with}
use Rattle.spec_grammar.specs.Tokens as spec
use Rattle.spec_grammar.specs.Tokens.{Text, Lexed, and_then, lexed}
use Rattle.ras_parse.specs.declared.token.Token.{Token}
use Rattle.ras_parse.specs.declared.token.Next.{Next}
use Rattle.ras_parse.specs.declared.token.Next.TheVariants as next

-- tokens before others
abbrev pub before : List spec.Token → Lexed → Lexed
before ts l = record { tokens = ts ++ l.tokens; fault = l.fault }

-- how many bytes are left with what was found
abbrev pub left_of : Text → Next → ℕ
left_of text next.End = 0
left_of text (next.Token t) = suc (length text - t.span.from)
left_of text (next.Fault f) = 0

-- one token more
pub tokens_more : (text : Text) (items news : List Token) (t : Token) → news ≡ items ++ t ∷ [] → tokens_in text news ≡ tokens_in text items ++ token_in text t ∷ []
tokens_more text items news t e = ap (tokens_in text) e ∙ map-append (token_in text) items (t ∷ [])

pub weighs_more : (text : Text) (items news : List Token) (t : Token) → news ≡ items ++ t ∷ []
    → weight_of (tokens_in text news) ≡ weight_of (tokens_in text items) + weight_of_kind (token_in text t).kind
weighs_more text items news t e =
    ap weight_of (tokens_more text items news t e)
    ∙ (weight_of-append (tokens_in text items) (token_in text t ∷ []) ∙ (omega arith))

-- the token with which the tokens weigh too much
pub too_heavy : (text : Text) (items news : List Token) (t : Token) (weight : ℕ) → news ≡ items ++ t ∷ []
    → lexed text ≡ before (tokens_in text items) (lexed_with text (spec.good (token_in text t)))
    → weight ≡ weight_of (tokens_in text items) → weight ≤ MAX_WEIGHT
    → MAX_WEIGHT < weight + weight_of_kind (token_in text t).kind
    → IsFront text (tokens_in text news) (Behind.TooHeavy t.span.from)
too_heavy text items news t weight e read weighed light heavy =
    let more = weighs_more text items news t e in (
      tokens_in text items,
      token_in text t,
      (lexed_after text (token_in text t).to).tokens,
      tokens_more text items news t e,
      ap (λ (l : Lexed). l.tokens) read,
      omega arith,
      omega arith,
      refl,
    )

pub read_more : (text : Text) (items news : List Token) (t : Token) (rest : Lexed) → news ≡ items ++ t ∷ []
    → lexed text ≡ before (tokens_in text items) (lexed_with text (spec.good (token_in text t))) → lexed_after text t.span.to ≡ rest
    → lexed text ≡ before (tokens_in text news) rest
read_more text items news t rest e read steps =
    read ∙ (ap (λ l. before (tokens_in text items) (and_then (token_in text t) l)) steps
    ∙ (ap (λ ts. record { tokens = ts; fault = rest.fault }) (sym (append_assoc (tokens_in text items) (token_in text t ∷ []) rest.tokens))
    ∙ ap (λ ts. before ts rest) (sym (tokens_more text items news t e))))

pub lies_further : (text : Text) (at : ℕ) (found : Next) → NextLiesIn text at found → NextLiesIn text 0 found
lies_further text at next.End h = tt
lies_further text at (next.Token t) h = (omega arith, h.1)
lies_further text at (next.Fault f) h = (omega arith, h.1)
