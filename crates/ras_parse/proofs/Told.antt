-- The tokens at a text's front are those that are read for its verdict.
use Rattle.std.specs.Prelude.{◌≡◌, ℕ, ◌+◌, ◌-◌, ◌<◌, ◌≤◌, nat_le, true, false, List, [], ◌∷◌, ◌++◌, Option, Some, None, Result, Ok, Err}
use Rattle.std.proofs.Common.{refl, sym, ap, ap₂, subst, ◌∙◌, arith}
use Rattle.std.proofs.lemmas.Bool.{le-leb}
use Rattle.ras_syntax.specs.declared.faults.SyntaxFault.{SyntaxFault}
use Rattle.ras_syntax.specs.declared.statement.Statement.{Statement}
use Rattle.ras_syntax.specs.declared.statement.StatementForm.{StatementForm}
use Rattle.ras_syntax.specs.declared.limits.TheConstants.{MAX_WEIGHT}
use Rattle.spec_grammar.specs.Tokens.{Text, Token, Lexed, lexed}
use Rattle.spec_grammar.specs.Weight.{weight_of, weight_of_kind}
use Rattle.spec_grammar.specs.Verdict.{IsVerdict}
use Rattle.law_grammar.specs.Readers.{ReadOutcome}
use Rattle.law_grammar.specs.Reading.{form_read, reads, read_at, read_form, read_statement}
use Rattle.law_grammar.specs.VerdictOf.{light_front, told_of, verdict_of}
use Rattle.law_grammar.proofs.EachVerdict.{light_front-weight, verdict_of-is}
use Rattle.law_grammar.proofs.Shallow.{reads-agree, form-agrees}
use Rattle.ras_parse.specs.declared.reading.Behind.{Behind}
use Rattle.ras_parse.specs.declared.reading.Behind.TheVariants as behind
use Rattle.ras_parse.specs.declared.token.Token as code
use Rattle.ras_parse.specs.declared.verdict.Outcome.{Outcome}
use Rattle.ras_parse.specs.Reading.{IsFront}
use Rattle.ras_parse.specs.Seen.{tokens_in}
use Rattle.ras_parse.specs.Told.{form_before, outcome_read, told_by}

-- ---- the front

-- tokens that weigh little are their own front
light_front-whole : (most : ℕ) (ts : List Token) → weight_of ts ≤ most → light_front most ts ≡ (ts, None)
light_front-whole most [] light = refl
light_front-whole most (t ∷ ts) light =
    let sum : weight_of_kind t.kind + weight_of ts ≤ most = light in
    let le : nat_le (weight_of_kind t.kind) most ≡ true = le-leb (weight_of_kind t.kind) most (omega arith) in
    let rest : light_front (most - weight_of_kind t.kind) ts ≡ (ts, None) = light_front-whole (most - weight_of_kind t.kind) ts (omega arith) in
    rw (le, light_front) (ap (λ (p : List Token × Option Token). (t ∷ p.0, p.1)) rest)

-- others have a front that ends with the first heavy one
light_front-heavy : (most : ℕ) (before : List Token) (t : Token) (after : List Token) → weight_of before ≤ most
    → most < weight_of (before ++ t ∷ []) → light_front most (before ++ t ∷ after) ≡ (before ++ t ∷ [], Some t)
light_front-heavy most [] t after light heavy =
    let sum : most < weight_of_kind t.kind + 0 = heavy in
    let not : nat_le (weight_of_kind t.kind) most ≡ false = grind arith in
    rw (not, light_front) refl
light_front-heavy most (b ∷ before) t after light heavy =
    let sum : weight_of_kind b.kind + weight_of before ≤ most = light in
    let more : most < weight_of_kind b.kind + weight_of (before ++ t ∷ []) = heavy in
    let le : nat_le (weight_of_kind b.kind) most ≡ true = le-leb (weight_of_kind b.kind) most (omega arith) in
    let rest : light_front (most - weight_of_kind b.kind) (before ++ t ∷ after) ≡ (before ++ t ∷ [], Some t) =
    light_front-heavy (most - weight_of_kind b.kind) before t after (omega arith) (omega arith) in
    rw (le, light_front) (ap (λ (p : List Token × Option Token). (b ∷ p.0, p.1)) rest)

-- ---- what reading gave

-- a form that was read, where these tokens are left
ended : StatementForm → List Token → Result StatementForm (List Token)
ended form [] = Ok form
ended form (t ∷ rest) = Err (t ∷ rest)

-- what is told of tokens by reading them as a statement
told_after : Text → Option Token → Option SyntaxFault → ReadOutcome StatementForm → Result Statement SyntaxFault
told_after text heavy own (Ok p) = told_of text heavy own (ended p.0 p.1)
told_after text heavy own (Err rest) = told_of text heavy own (Err rest)

told_after-is : (text : Text) (heavy : Option Token) (own : Option SyntaxFault) (ts : List Token)
    → told_of text heavy own (read_statement ts) ≡ told_after text heavy own (read_form ts)
unfolding read_statement told_after ended
told_after-is text heavy own ts = at (read_form ts)
  where
    at_rest : (form : StatementForm) (rest : List Token)
        → elim rest as (λ v. Result StatementForm (List Token)) [ [] ↦ Ok form | t ∷ left ↦ Err (t ∷ left) ] ≡ ended form rest
    at_rest form [] = refl
    at_rest form (t ∷ rest) = refl

    at : (o : ReadOutcome StatementForm) → told_of text heavy own (elim o as (λ v. Result StatementForm (List Token)) [
      | Ok p ↦ elim p.1 as (λ v. Result StatementForm (List Token)) [ [] ↦ Ok p.0 | t ∷ rest ↦ Err (t ∷ rest) ]
      | Err rest ↦ Err rest
    ]) ≡ told_after text heavy own o
    at (Ok p) = ap (told_of text heavy own) (at_rest p.0 p.1)
    at (Err rest) = refl

-- where no token is too heavy, at the text's end
told-end : (text : Text) (o : ReadOutcome StatementForm) → told_after text None None o ≡ told_by text behind.End (outcome_read o)
unfolding told_after ended
told-end text (Ok p) = at p.0 p.1
  where
    at : (form : StatementForm) (rest : List Token) → told_of text None None (ended form rest) ≡ told_by text behind.End (form_before form rest)
    at form [] = refl
    at form (t ∷ rest) = refl
told-end text (Err []) = refl
told-end text (Err (t ∷ rest)) = refl

-- before a fault of a token's own
told-own : (text : Text) (f : SyntaxFault) (o : ReadOutcome StatementForm) → told_after text None (Some f) o ≡ told_by text (behind.Fault f) (outcome_read o)
unfolding told_after ended
told-own text f (Ok p) = at p.0 p.1
  where
    at : (form : StatementForm) (rest : List Token) → told_of text None (Some f) (ended form rest) ≡ told_by text (behind.Fault f) (form_before form rest)
    at form [] = refl
    at form (t ∷ rest) = refl
told-own text f (Err []) = refl
told-own text f (Err (t ∷ rest)) = refl

-- where the last token is too heavy, whatever fault comes behind
told-heavy : (text : Text) (u : Token) (own : Option SyntaxFault) (o : ReadOutcome StatementForm)
    → told_after text (Some u) own o ≡ told_by text (behind.TooHeavy u.from) (outcome_read o)
unfolding told_after ended
told-heavy text u own (Ok p) = at p.0 p.1
  where
    at : (form : StatementForm) (rest : List Token) → told_of text (Some u) own (ended form rest) ≡ told_by text (behind.TooHeavy u.from) (form_before form rest)
    at form [] = refl
    at form (t ∷ rest) = refl
told-heavy text u own (Err []) = refl
told-heavy text u own (Err (t ∷ rest)) = refl

-- ---- the verdict

-- the verdict of what is read up to the first heavy token
verdict_with : Text → List Token × Option Token → Option SyntaxFault → Result Statement SyntaxFault
verdict_with text front own = told_of text front.1 own (read_statement front.0)

verdict_of-with : (text : Text) (l : Lexed) (front : List Token × Option Token) (own : Option SyntaxFault) → lexed text ≡ l
    → light_front MAX_WEIGHT l.tokens ≡ front → l.fault ≡ own → verdict_of text ≡ told_after text front.1 own (read_form front.0)
unfolding verdict_with
verdict_of-with text l front own is e e' =
    ap (λ (m : Lexed). verdict_with text (light_front MAX_WEIGHT m.tokens) m.fault) is
    ∙ ap₂ (verdict_with text) e e' ∙ told_after-is text front.1 own front.0

-- the tokens at the front, and the heavy one
heavy_front : (text : Text) (ts : List Token) (place : ℕ) → IsFront text ts (behind.TooHeavy place)
    → (t : Token) × (place ≡ t.from) × (light_front MAX_WEIGHT (lexed text).tokens ≡ (ts, Some t))
heavy_front text ts place h = (
  h.1,
  h.7,
  ap (light_front MAX_WEIGHT) h.4 ∙ light_front-heavy MAX_WEIGHT h.0 h.1 h.2 h.5 (subst (λ us. MAX_WEIGHT < weight_of us) h.3 h.6)
      ∙ ap (λ (us : List Token). (us, Some h.1)) (sym h.3),
)

-- the verdict on a text, from what reading the tokens at its front gave and what stands behind them
pub verdict_of-front : (text : Text) (ts : List Token) (b : Behind) → IsFront text ts b → verdict_of text ≡ told_by text b (outcome_read (read_form ts))
verdict_of-front text ts behind.End h =
    verdict_of-with text _ (ts, None) None h.0 (light_front-whole MAX_WEIGHT ts h.1) refl ∙ told-end text (read_form ts)
verdict_of-front text ts (behind.Fault f) h =
    verdict_of-with text _ (ts, None) (Some f) h.0 (light_front-whole MAX_WEIGHT ts h.1) refl ∙ told-own text f (read_form ts)
verdict_of-front text ts (behind.TooHeavy place) h =
    let k = heavy_front text ts place h in
    verdict_of-with text (lexed text) (ts, Some k.0) (lexed text).fault refl k.2 refl ∙ told-heavy text k.0 (lexed text).fault (read_form ts)
    ∙ ap (λ n. told_by text (behind.TooHeavy n) (outcome_read (read_form ts))) (sym k.1)

-- ---- depth

-- the tokens at a text's front weigh little
front-weight : (text : Text) (ts : List Token) (b : Behind) → IsFront text ts b → weight_of ts ≤ MAX_WEIGHT + 2
front-weight text ts behind.End h = let light : weight_of ts ≤ MAX_WEIGHT = h.1 in omega arith
front-weight text ts (behind.Fault f) h = let light : weight_of ts ≤ MAX_WEIGHT = h.1 in omega arith
front-weight text ts (behind.TooHeavy place) h =
    let k = heavy_front text ts place h in
    subst (λ (p : List Token × Option Token). weight_of p.0 ≤ MAX_WEIGHT + 2) k.2 (light_front-weight MAX_WEIGHT (lexed text).tokens)

-- reading goes no deeper than a constant
front-depth : (text : Text) (ts : List Token) (b : Behind) → IsFront text ts b → form_read (reads (MAX_WEIGHT + 3)) ts ≡ read_form ts
front-depth text ts b h =
    let light : weight_of ts ≤ MAX_WEIGHT + 2 = front-weight text ts b h in
    (form-agrees (MAX_WEIGHT + 3) (reads (MAX_WEIGHT + 3)) read_at (λ level. reads-agree (MAX_WEIGHT + 3) level)).same ts (omega arith)

-- what is told of the front is the verdict
pub front-told : (text : Text) (ts : List Token) (b : Behind) → IsFront text ts b
    → IsVerdict text (told_by text b (outcome_read (form_read (reads (MAX_WEIGHT + 3)) ts)))
front-told text ts b h =
    subst (IsVerdict text) (verdict_of-front text ts b h ∙ ap (λ o. told_by text b (outcome_read o)) (sym (front-depth text ts b h))) (verdict_of-is text)

-- what is answered of the tokens at a text's front is the verdict
pub front-answered : (text : Text) (items now : List code.Token) (b : Behind) (o : Outcome) (r : Result Statement SyntaxFault)
    → IsFront text (tokens_in text items) b → now ≡ items → o ≡ outcome_read (form_read (reads (MAX_WEIGHT + 3)) (tokens_in text now))
    → r ≡ told_by text b o → IsVerdict text r
front-answered text items now b o r front same is told =
    subst (IsVerdict text)
    (sym (told ∙ ap (told_by text b) (is ∙ ap (λ ts. outcome_read (form_read (reads (MAX_WEIGHT + 3)) (tokens_in text ts))) same)))
    (front-told text (tokens_in text items) b front)
