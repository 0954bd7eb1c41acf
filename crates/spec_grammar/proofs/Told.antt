-- Where the first wrong token stands decides which fault is told.
use Rattle.std.specs.Prelude.{◌≡◌, ℕ, ◌+◌, ◌<◌, ◌≤◌, List, [], ◌∷◌, ◌++◌, length, Some, None, Err}
use Rattle.std.proofs.Common.{refl, sym, ap, ap₂, ◌∙◌, subst, inl, inr, arith, append_assoc}
use Rattle.ras_syntax.specs.declared.faults.SyntaxFault.{SyntaxFault}
use Rattle.ras_syntax.specs.declared.faults.SyntaxFault.TheVariants.{Unexpected, TooDeep}
use Rattle.ras_syntax.specs.declared.statement.StatementForm.{StatementForm}
use Rattle.spec_grammar.specs.Tokens.{Text, Token, lexed}
use Rattle.spec_grammar.specs.Weight.{weight_of}
use Rattle.spec_grammar.specs.Grammar.{IsStatement}
use Rattle.spec_grammar.specs.Order.{AreInOrder}
use Rattle.spec_grammar.specs.Verdict.{BeginsStatement, HasSyntaxFault, own, unexpected, ended, too_deep, fault_place, fault_rank, IsFirstOf, IsVerdict, fault}
use Rattle.spec_grammar.proofs.Order.{tokens-order, own_fault-order}
use Rattle.spec_grammar.proofs.Verdicts.{weight_of-append, regrouped, no_none, held}
use Rattle.ras_syntax.specs.declared.limits.TheConstants.{MAX_WEIGHT}

-- ---- two places in one list

data Splits (before : List Token) (t : Token) (before' : List Token) (t' : Token) : Type 0 where
  same : before ≡ before' → t ≡ t' → Splits before t before' t'
  earlier : (mid : List Token) → before ≡ before' ++ t' ∷ mid → Splits before t before' t'
  later : (mid : List Token) → before' ≡ before ++ t ∷ mid → Splits before t before' t'

head_of : Token → List Token → Token
head_of t [] = t
head_of t (u ∷ us) = u

tail_of : List Token → List Token
tail_of [] = []
tail_of (u ∷ us) = us

split : (before before' after after' : List Token) (t t' : Token) → before ++ t ∷ after ≡ before' ++ t' ∷ after' → Splits before t before' t'
unfolding head_of tail_of
split [] [] after after' t t' e = same refl (ap (head_of t) e)
split [] (b ∷ bs) after after' t t' e = later bs (ap (λ u. u ∷ bs) (sym (ap (head_of t) e)))
split (b ∷ bs) [] after after' t t' e = earlier bs (ap (λ u. u ∷ bs) (ap (head_of t) e))
split (b ∷ bs) (c ∷ cs) after after' t t' e = go (split bs cs after after' t t' (ap tail_of e))
  where
    go : Splits bs t cs t' → Splits (b ∷ bs) t (c ∷ cs) t'
    go (same p q) = same (ap₂ (λ u us. u ∷ us) (ap (head_of t) e) p) q
    go (earlier mid p) = earlier mid (ap₂ (λ u us. u ∷ us) (ap (head_of t) e) p)
    go (later mid p) = later mid (ap₂ (λ u us. u ∷ us) (sym (ap (head_of t) e)) p)

-- ---- places

order-from : (from to : ℕ) (before after : List Token) (t : Token) → AreInOrder from (before ++ t ∷ after) to → from ≤ t.from
order-from from to [] after t h = h.0
order-from from to (b ∷ bs) after t h =
    let x : from ≤ b.from = h.0 in
    let y : b.from < b.to = h.1 in
    let z : b.to ≤ t.from = order-from b.to to bs after t h.2 in
    omega arith

order-to : (from to : ℕ) (ts : List Token) → AreInOrder from ts to → from ≤ to
order-to from to [] h = h
order-to from to (t ∷ ts) h =
    let x : from ≤ t.from = h.0 in
    let y : t.from < t.to = h.1 in
    let z : t.to ≤ to = order-to t.to to ts h.2 in
    omega arith

order-end : (from to : ℕ) (before after : List Token) (t : Token) → AreInOrder from (before ++ t ∷ after) to → t.from < to
order-end from to [] after t h = let x : t.from < t.to = h.1 in let y : t.to ≤ to = order-to t.to to after h.2 in omega arith
order-end from to (b ∷ bs) after t h = order-end b.to to bs after t h.2

order-later : (from to : ℕ) (before mid after : List Token) (t t' : Token) → AreInOrder from ((before ++ t ∷ mid) ++ t' ∷ after) to → t.from < t'.from
order-later from to [] mid after t t' h = let x : t.from < t.to = h.1 in let y : t.to ≤ t'.from = order-from t.to to mid after t' h.2 in omega arith
order-later from to (b ∷ bs) mid after t t' h = order-later b.to to bs mid after t t' h.2

before_end : (text : Text) (before after : List Token) (t : Token) → (lexed text).tokens ≡ before ++ t ∷ after → t.from < length text
before_end text before after t e = order-end 0 (length text) before after t (subst (λ ts. AreInOrder 0 ts (length text)) e (tokens-order text))

before_own : (text : Text) (before after : List Token) (t : Token) (f : SyntaxFault) → (lexed text).tokens ≡ before ++ t ∷ after
    → (lexed text).fault ≡ Some f → t.from < fault_place f
before_own text before after t f e is =
    order-end 0 (fault_place f) before after t (subst (λ ts. AreInOrder 0 ts (fault_place f)) e (own_fault-order text f is).0)

before_later : (text : Text) (before mid after before' : List Token) (t t' : Token) → (lexed text).tokens ≡ before' ++ t' ∷ after
    → before' ≡ before ++ t ∷ mid → t.from < t'.from
before_later text before mid after before' t t' e p =
    order-later 0 (length text) before mid after t t'
    (subst (λ ts. AreInOrder 0 ts (length text)) (e ∙ ap (λ us. us ++ t' ∷ after) p) (tokens-order text))

-- ---- fronts of lists

begins-front : (ts us : List Token) → BeginsStatement (ts ++ us) → BeginsStatement ts
begins-front ts us (more, form, is) = (us ++ more, form, subst (λ vs. IsStatement vs form) (append_assoc ts us more) is)

begins_with_token : (ts before after : List Token) (t : Token) → ts ≡ before ++ t ∷ after → BeginsStatement ts → BeginsStatement (before ++ t ∷ [])
begins_with_token ts before after t e begins = begins-front (before ++ t ∷ []) after (subst BeginsStatement (e ∙ regrouped before after t) begins)

weighs_less : (ts before after : List Token) (t : Token) → ts ≡ before ++ t ∷ after → weight_of (before ++ t ∷ []) ≤ weight_of ts
weighs_less ts before after t e =
    let all : weight_of ts ≡ weight_of (before ++ t ∷ []) + weight_of after =
    ap weight_of (e ∙ regrouped before after t) ∙ weight_of-append (before ++ t ∷ []) after in
    omega arith

too_light : (ts before after : List Token) (t : Token) → ts ≡ before ++ t ∷ after → weight_of ts ≤ MAX_WEIGHT
    → MAX_WEIGHT < weight_of (before ++ t ∷ []) → ⊥
too_light ts before after t e light heavy =
    let less : weight_of (before ++ t ∷ []) ≤ weight_of ts = weighs_less ts before after t e in
    omega arith

-- ---- the first fault

-- a fault at a token, where all tokens before it are of a statement and no weight too much
module _ (text : Text) (before after : List Token) (t : Token) (f : SyntaxFault) (at : fault_place f ≡ t.from) (last : fault_rank f ≤ 2)
    (e : (lexed text).tokens ≡ before ++ t ∷ after) (begins : BeginsStatement before) (light : weight_of before ≤ MAX_WEIGHT)
    (first : ¬ BeginsStatement (before ++ t ∷ []) → fault_rank f ≤ 1) where
  first_at : (g : SyntaxFault) → HasSyntaxFault text g → IsFirstOf f g
  first_at g (own h is) = inl (let x : t.from < fault_place h = before_own text before after t h e is in omega arith)
  first_at g (unexpected before' after' t' e' begins' not) = go (split before before' after after' t t' (sym e ∙ e'))
    where
      go : Splits before t before' t' → IsFirstOf f (Unexpected t'.from)
      go (same p q) = inr (at ∙ ap (λ u. u.from) q, first (λ b. not (subst BeginsStatement (ap₂ (λ us u. us ++ u ∷ []) p q) b)))
      go (earlier mid p) = absurd (not (begins_with_token before before' mid t' p begins))
      go (later mid p) = inl (let x : t.from < t'.from = before_later text before mid after' before' t t' e' p in omega arith)
  first_at g (ended none begins' not) = inl (let x : t.from < length text = before_end text before after t e in omega arith)
  first_at g (too_deep before' after' t' e' light' heavy) = go (split before before' after after' t t' (sym e ∙ e'))
    where
      go : Splits before t before' t' → IsFirstOf f (TooDeep t'.from)
      go (same p q) = inr (at ∙ ap (λ u. u.from) q, last)
      go (earlier mid p) = absurd (too_light before before' mid t' p light heavy)
      go (later mid p) = inl (let x : t.from < t'.from = before_later text before mid after' before' t t' e' p in omega arith)

pub told-unexpected : (text : Text) (before after : List Token) (t : Token) → (lexed text).tokens ≡ before ++ t ∷ after
    → BeginsStatement before → ¬ BeginsStatement (before ++ t ∷ []) → weight_of before ≤ MAX_WEIGHT → IsVerdict text (Err (Unexpected t.from))
told-unexpected text before after t e begins not light = fault (Unexpected t.from) (unexpected before after t e begins not)
    (first_at text before after t (Unexpected t.from) refl (omega arith) e begins light (λ b. omega arith))

pub told-too_deep : (text : Text) (before after : List Token) (t : Token) → (lexed text).tokens ≡ before ++ t ∷ after
    → BeginsStatement (before ++ t ∷ []) → weight_of before ≤ MAX_WEIGHT → MAX_WEIGHT < weight_of (before ++ t ∷ [])
    → IsVerdict text (Err (TooDeep t.from))
told-too_deep text before after t e begins light heavy = fault (TooDeep t.from) (too_deep before after t e light heavy)
    (first_at text before after t (TooDeep t.from) refl (omega arith) e (begins-front before (t ∷ []) begins) light (λ b. absurd (b begins)))

pub told-own : (text : Text) (f : SyntaxFault) → (lexed text).fault ≡ Some f → BeginsStatement (lexed text).tokens
    → weight_of (lexed text).tokens ≤ MAX_WEIGHT → IsVerdict text (Err f)
unfolding held
told-own text f is begins light = fault f (own f is) first
  where
    first : (g : SyntaxFault) → HasSyntaxFault text g → IsFirstOf f g
    first g (own h is') =
        let one : f ≡ h = ap (held f) (sym is ∙ is') in
        inr (ap fault_place one, (let r : fault_rank f ≡ fault_rank h = ap fault_rank one in omega arith))
    first g (unexpected before after t e begins' not) = absurd (not (begins_with_token (lexed text).tokens before after t e begins))
    first g (ended none begins' not) = absurd (no_none f (sym none ∙ is))
    first g (too_deep before after t e light' heavy) = absurd (too_light (lexed text).tokens before after t e light heavy)

pub told-ended : (text : Text) → (lexed text).fault ≡ None → BeginsStatement (lexed text).tokens
    → ((form : StatementForm) → ¬ IsStatement (lexed text).tokens form) → weight_of (lexed text).tokens ≤ MAX_WEIGHT
    → IsVerdict text (Err (Unexpected (length text)))
told-ended text none begins not light = fault (Unexpected (length text)) (ended none begins not) first
  where
    first : (g : SyntaxFault) → HasSyntaxFault text g → IsFirstOf (Unexpected (length text)) g
    first g (own h is) = absurd (no_none h (sym none ∙ is))
    first g (unexpected before after t e begins' not') = absurd (not' (begins_with_token (lexed text).tokens before after t e begins))
    first g (ended none' begins' not') = inr (refl, omega arith)
    first g (too_deep before after t e light' heavy) = absurd (too_light (lexed text).tokens before after t e light heavy)
