-- The verdict that is computed is the text's, and its only one.
use Rattle.std.specs.Prelude.{◌≡◌, ℕ, ◌+◌, ◌-◌, ◌<◌, ◌≤◌, nat_le, Bool as Truth, true, false, List, [], ◌∷◌, ◌++◌, length, Option, Some, None, Result, Ok, Err}
use Rattle.std.proofs.Common.{refl, sym, ap, subst, ◌∙◌, arith, append_assoc}
use Rattle.std.proofs.lemmas.List.{append-nil}
use Rattle.std.proofs.lemmas.Bool.{leb-true, leb-false}
use Rattle.ras_syntax.specs.declared.faults.SyntaxFault.{SyntaxFault}
use Rattle.ras_syntax.specs.declared.statement.Statement.{Statement}
use Rattle.ras_syntax.specs.declared.statement.StatementForm.{StatementForm}
use Rattle.spec_grammar.specs.Tokens.{Text, is_one_of, TokenKind, name, word, number, sign, Token, lexed}
use Rattle.spec_grammar.specs.Weight.{opening_signs, nesting_signs, nesting_words, weight_of, weight_of_kind}
use Rattle.ras_syntax.specs.declared.limits.TheConstants.{MAX_WEIGHT}
use Rattle.spec_grammar.specs.Grammar.{IsStatement}
use Rattle.spec_grammar.specs.Verdict.{BeginsStatement, HasSyntaxFault, IsVerdict, statement, fault}
use Rattle.law_lists.proofs.Choices.{either_way}
use Rattle.spec_grammar.proofs.Verdicts.{weight_of-append, IsVerdict-statement, IsVerdict-fault}
use Rattle.spec_grammar.proofs.Told.{told-unexpected, told-too_deep, told-own, told-ended}
use Rattle.law_grammar.specs.Reading.{read_statement}
use Rattle.law_grammar.specs.FirstWrong.{IsFirstWrong}
use Rattle.law_grammar.specs.VerdictOf.{light_front, told_of, verdict_of}
use Rattle.law_grammar.proofs.Ends.{Tells, told, one_tree}

-- ---- the tokens that are read

-- the first token that is too heavy, and what stands round it
record Heavy (most : ℕ) (ts front : List Token) (t : Token) : Type 0 where
  before : List Token
  after : List Token
  is : ts ≡ before ++ t ∷ after
  front_is : front ≡ before ++ t ∷ []
  light : weight_of before ≤ most
  heavy : most < weight_of (before ++ t ∷ [])

record Light (most : ℕ) (ts front : List Token) : Type 0 where
  front_is : front ≡ ts
  light : weight_of ts ≤ most

abbrev IsFront : ℕ → List Token → List Token → Option Token → Type 0
IsFront most ts front None = Light most ts front
IsFront most ts front (Some t) = Heavy most ts front t

lighter : (most : ℕ) (t : Token) (ts front : List Token) (o : Option Token) → weight_of_kind t.kind ≤ most
    → IsFront (most - weight_of_kind t.kind) ts front o → IsFront most (t ∷ ts) (t ∷ front) o
lighter most t ts front None le h = record {
  front_is = ap (λ us. t ∷ us) h.front_is;
  light = let l : weight_of ts ≤ most - weight_of_kind t.kind = h.light in omega arith;
}
lighter most t ts front (Some u) le h = record {
  before = t ∷ h.before;
  after = h.after;
  is = ap (λ us. t ∷ us) h.is;
  front_is = ap (λ us. t ∷ us) h.front_is;
  light = let l : weight_of h.before ≤ most - weight_of_kind t.kind = h.light in omega arith;
  heavy = let l : most - weight_of_kind t.kind < weight_of (h.before ++ u ∷ []) = h.heavy in omega arith;
}

front-is : (most : ℕ) (ts : List Token) → IsFront most ts (light_front most ts).0 (light_front most ts).1
front-is most [] = record { front_is = refl; light = omega arith }
front-is most (t ∷ ts) = at (nat_le (weight_of_kind t.kind) most) refl (front-is (most - weight_of_kind t.kind) ts)
  where
    rest : List Token × Option Token
    rest = light_front (most - weight_of_kind t.kind) ts

    front : Truth → List Token × Option Token
    front b = elim b [ true ↦ (t ∷ rest.0, rest.1) | false ↦ (t ∷ [], Some t) ]

    at : (b : Truth) → nat_le (weight_of_kind t.kind) most ≡ b → IsFront (most - weight_of_kind t.kind) ts rest.0 rest.1
        → IsFront most (t ∷ ts) (front b).0 (front b).1
    at true le h = lighter most t ts rest.0 rest.1 (leb-true (weight_of_kind t.kind) most le) h
    at false not h = record {
      before = [];
      after = ts;
      is = refl;
      front_is = refl;
      light = omega arith;
      heavy = let more : most < weight_of_kind t.kind = leb-false (weight_of_kind t.kind) most not in omega arith;
    }

-- no token weighs more than 2
kind-weight : (kind : TokenKind) → weight_of_kind kind ≤ 2
kind-weight (name text) = omega arith
kind-weight (word text) = either_way (λ n. n ≤ 2) (is_one_of nesting_words text) 1 0 (λ e. omega arith) (λ e. omega arith)
kind-weight (number z a) = omega arith
kind-weight (sign text) = either_way (λ n. n ≤ 2) (is_one_of opening_signs text) 2 _ (λ e. omega arith)
    (λ e. either_way (λ n. n ≤ 2) (is_one_of nesting_signs text) 1 0 (λ f. omega arith) (λ f. omega arith))

front-weight : (most : ℕ) (ts front : List Token) (o : Option Token) → IsFront most ts front o → weight_of front ≤ most + 2
front-weight most ts front None h =
    let e : weight_of front ≡ weight_of ts = ap weight_of h.front_is in
    let l : weight_of ts ≤ most = h.light in omega arith
front-weight most ts front (Some t) h =
    let e : weight_of front ≡ weight_of (h.before ++ t ∷ []) = ap weight_of h.front_is in
    let sum : weight_of (h.before ++ t ∷ []) ≡ weight_of h.before + weight_of (t ∷ []) = weight_of-append h.before (t ∷ []) in
    let l : weight_of h.before ≤ most = h.light in
    let k : weight_of_kind t.kind ≤ 2 = kind-weight t.kind in omega arith

-- what is read weighs little
pub light_front-weight : (most : ℕ) (ts : List Token) → weight_of (light_front most ts).0 ≤ most + 2
light_front-weight most ts = front-weight most ts (light_front most ts).0 (light_front most ts).1 (front-is most ts)

-- ---- the verdict

begins_whole : (ts : List Token) (form : StatementForm) → IsStatement ts form → BeginsStatement ts
begins_whole ts form is = ([], form, subst (λ us. IsStatement us form) (sym (append-nil ts)) is)

-- a first wrong token at the end
begins_end : (ts : List Token) → IsFirstWrong ts [] → BeginsStatement ts
begins_end ts h = subst BeginsStatement (sym (h.is ∙ append-nil h.before)) h.begins

none_end : (ts : List Token) → IsFirstWrong ts [] → (form : StatementForm) → ¬ IsStatement ts form
none_end ts h form is = h.wrong form (subst (λ us. IsStatement us form) (h.is ∙ append-nil h.before) is)

-- what stands before a token of a list with one more token is no heavier than the list
front-lighter : (pre rest before : List Token) (t u : Token) → before ++ u ∷ [] ≡ pre ++ t ∷ rest → weight_of pre ≤ weight_of before
front-lighter [] rest before t u e = omega arith
front-lighter (p ∷ pre) rest [] t u e = absurd (too_short pre (let e' : u ∷ [] ≡ p ∷ (pre ++ t ∷ rest) = e in cc))
  where
    too_short : (pre : List Token) → [] ≡ pre ++ t ∷ rest → ⊥
    too_short [] e = cc
    too_short (p ∷ pre) e = cc
front-lighter (p ∷ pre) rest (b ∷ before) t u e =
    let e' : b ∷ (before ++ u ∷ []) ≡ p ∷ (pre ++ t ∷ rest) = e in
    let same : b ≡ p = cc in
    let less : weight_of pre ≤ weight_of before = front-lighter pre rest before t u (cc) in
    let w : weight_of_kind b.kind ≡ weight_of_kind p.kind = ap (λ (v : Token). weight_of_kind v.kind) same in
    omega arith

light-append : (ts us : List Token) (most : ℕ) → weight_of (ts ++ us) ≤ most → weight_of ts ≤ most
light-append ts us most h = let e : weight_of (ts ++ us) ≡ weight_of ts + weight_of us = weight_of-append ts us in omega arith

module _ (text : Text) where
  tokens : List Token
  tokens = (lexed text).tokens

  light-verdict : (front : List Token) → Light MAX_WEIGHT (lexed text).tokens front → (own : Option SyntaxFault) → (lexed text).fault ≡ own
      → (o : Result StatementForm (List Token)) → Tells front o → IsVerdict text (told_of text None own o)
  light-verdict front l (Some f) own (Ok form) is =
      told-own text f own (subst BeginsStatement l.front_is (begins_whole front form is)) l.light
  light-verdict front l None own (Ok form) is = statement form own (subst (λ us. IsStatement us form) l.front_is is) l.light
  light-verdict front l (Some f) own (Err []) h = told-own text f own (subst BeginsStatement l.front_is (begins_end front h)) l.light
  light-verdict front l None own (Err []) h = told-ended text own (subst BeginsStatement l.front_is (begins_end front h))
      (λ form is. none_end front h form (subst (λ us. IsStatement us form) (sym l.front_is) is)) l.light
  light-verdict front l own e (Err (t ∷ rest)) h =
      let is : (lexed text).tokens ≡ h.before ++ t ∷ rest = sym l.front_is ∙ h.is in
      told-unexpected text h.before rest t is h.begins h.wrong
      (light-append h.before (t ∷ rest) MAX_WEIGHT (subst (λ us. weight_of us ≤ MAX_WEIGHT) is l.light))

  heavy-verdict : (front : List Token) (u : Token) → Heavy MAX_WEIGHT (lexed text).tokens front u → (own : Option SyntaxFault)
      → (o : Result StatementForm (List Token)) → Tells front o → IsVerdict text (told_of text (Some u) own o)
  heavy-verdict front u k own (Ok form) is =
      told-too_deep text k.before k.after u k.is (subst BeginsStatement k.front_is (begins_whole front form is)) k.light k.heavy
  heavy-verdict front u k own (Err []) h =
      told-too_deep text k.before k.after u k.is (subst BeginsStatement k.front_is (begins_end front h)) k.light k.heavy
  heavy-verdict front u k own (Err (t ∷ rest)) h =
      let e : k.before ++ u ∷ [] ≡ h.before ++ t ∷ rest = sym k.front_is ∙ h.is in
      let is : (lexed text).tokens ≡ h.before ++ t ∷ (rest ++ k.after) =
      k.is ∙ sym (append_assoc k.before (u ∷ []) k.after) ∙ ap (λ us. us ++ k.after) e ∙ append_assoc h.before (t ∷ rest) k.after in
      told-unexpected text h.before (rest ++ k.after) t is h.begins h.wrong
      (let less : weight_of h.before ≤ weight_of k.before = front-lighter h.before rest k.before t u e in
      let l : weight_of k.before ≤ MAX_WEIGHT = k.light in omega arith)

  at_front : (front : List Token) (o : Option Token) → IsFront MAX_WEIGHT (lexed text).tokens front o
      → IsVerdict text (told_of text o (lexed text).fault (read_statement front))
  at_front front None l = light-verdict front l (lexed text).fault refl (read_statement front) (told front)
  at_front front (Some u) k = heavy-verdict front u k (lexed text).fault (read_statement front) (told front)

  pub verdict_of-is : IsVerdict text (verdict_of text)
  verdict_of-is = at_front (light_front MAX_WEIGHT (lexed text).tokens).0 (light_front MAX_WEIGHT (lexed text).tokens).1
      (front-is MAX_WEIGHT (lexed text).tokens)

  -- ---- one verdict

  pub one_form : (f g : Statement) → IsVerdict text (Ok f) → IsVerdict text (Ok g) → f ≡ g
  one_form _ _ (statement f none is light) (statement g none' is' light') =
      ap (λ form. record { form = form; length = length text }) (one_tree (lexed text).tokens f g is is')

  has_fault : (f : SyntaxFault) → IsVerdict text (Err f) → HasSyntaxFault text f
  has_fault _ (fault f h first) = h

  pub one_verdict : (r q : Result Statement SyntaxFault) → IsVerdict text r → IsVerdict text q → r ≡ q
  one_verdict (Ok f) (Ok g) h k = ap (λ x. Ok x) (one_form f g h k)
  one_verdict (Ok f) (Err g) h k = absurd (IsVerdict-statement text f g h (has_fault g k))
  one_verdict (Err f) (Ok g) h k = absurd (IsVerdict-statement text g f k (has_fault f h))
  one_verdict (Err f) (Err g) h k = ap (λ x. Err x) (IsVerdict-fault text f g h k)

-- what is found to be the verdict by hand is computed
pub is_verdict_of : (text : Text) (r : Result Statement SyntaxFault) → IsVerdict text r → verdict_of text ≡ r
is_verdict_of text r h = one_verdict text (verdict_of text) r (verdict_of-is text) h
