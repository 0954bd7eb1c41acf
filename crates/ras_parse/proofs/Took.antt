-- What was found out of the next token, as what was taken.
use Rattle.std.specs.Prelude.{◌≡◌, suc, Bool as Truth, true, false, if◌then◌else◌, List, [], ◌∷◌, length, Option, Some, None, option_map}
use Rattle.std.specs.Cmp.{nat_eq_equiv}
use Rattle.std.specs.Cmp.Lexicographic.{lists_equiv}
use Rattle.std.proofs.Common.{refl, sym, ap, subst, ◌∙◌, arith}
use Rattle.spec_grammar.specs.Tokens.{Text, is_same, TokenKind, name, word, number, sign, Token}
use Rattle.law_grammar.specs.Readers.{same_kind, exactly}
use Rattle.ras_parse.specs.Seen.{says, shows}
use Rattle.ras_parse.specs.Inputs.{Input, left, next, first, taken, Goes, Steps, Accepts, TakesToken}
use Rattle.law_grammar.specs.Reading.{name_of, placed_name}
use Rattle.spec_grammar.specs.Grammar.{span_of}
use Rattle.ras_syntax.specs.declared.span.Spanned.{Spanned}

taken-nil : {A : Type 0} (p : Token → Option A) (s : List Token) → s ≡ [] → taken p s ≡ None
unfolding taken
taken-nil p s e = ap (taken p) e

taken-cons : {A : Type 0} (p : Token → Option A) (s : List Token) (t : Token) (ts : List Token) → s ≡ t ∷ ts → taken p s ≡ option_map (λ x. (x, ts)) (p t)
unfolding taken
taken-cons p s t ts e = ap (taken p) e

-- ---- the next token is read, or not

steps-not : (i : Input) → Steps false i i
steps-not i = record { same = refl; is = refl; fewer = refl }

steps-one : (i j : Input) (t : Token) → left i ≡ t ∷ left (next i) → j ≡ next i → Steps true i j
steps-one i j t e is = subst (Steps true i) (sym is) (record { same = refl; is = e ∙ ap (λ u. u ∷ left (next i)) (sym (ap first e)); fewer = ap length e })

pub takes-end : {A : Type 0} (p : Token → Option A) (i : Input) → left i ≡ [] → TakesToken p i None i
takes-end p i e = record { steps = steps-not i; took = taken-nil p (left i) e }

pub takes-not : {A : Type 0} (p : Token → Option A) (i : Input) (t : Token) → left i ≡ t ∷ left (next i) → p t ≡ None → TakesToken p i None i
takes-not p i t e h = record {
  steps = steps-not i;
  took = taken-cons p (left i) t (left (next i)) e ∙ ap (option_map (λ x. (x, left (next i)))) h;
}

pub takes-it : {A : Type 0} (p : Token → Option A) (i j : Input) (t : Token) (x : A) → left i ≡ t ∷ left (next i) → p t ≡ Some x → j ≡ next i → TakesToken p i (Some x) j
takes-it {A} p i j t x e h is = record {
  steps = steps-one i j t e is;
  took = taken-cons p (left i) t (left (next i)) e ∙ ap (option_map (λ x. (x, left (next i)))) h ∙ ap (λ k. Some (x, left k)) (sym is);
}

-- the next token means something, else it is wrong
pub expects-end : {A : Type 0} (p : Token → Option A) (i : Input) → left i ≡ [] → (left i ≡ left i) × (taken p (left i) ≡ None)
expects-end p i e = (refl, taken-nil p (left i) e)

pub expects-not : {A : Type 0} (p : Token → Option A) (i : Input) (t : Token) → left i ≡ t ∷ left (next i) → p t ≡ None
    → (left i ≡ left i) × (taken p (left i) ≡ None)
expects-not p i t e h = (refl, (takes-not p i t e h).took)

pub expects-it : {A : Type 0} (p : Token → Option A) (i j : Input) (t : Token) (x : A) → left i ≡ t ∷ left (next i) → p t ≡ Some x → j ≡ next i
    → Goes i j × (taken p (left i) ≡ Some (x, left j))
expects-it p i j t x e h is =
    let s : TakesToken p i (Some x) j = takes-it p i j t x e h is in
    (record { same = s.steps.same; fewer = (let k : length (left i) ≡ suc (length (left j)) = s.steps.fewer in omega arith) }, s.took)

placed : (t : Token) → Option Text → Option Spanned
placed t o = elim o [ Some text ↦ Some (record { name = text; span = span_of (t ∷ []) }) | None ↦ None ]

pub placed-not : (t : Token) → name_of t ≡ None → placed_name t ≡ None
unfolding placed
placed-not t e = ap (placed t) e

pub placed-it : (t : Token) (text : Text) → name_of t ≡ Some text → placed_name t ≡ Some (record { name = text; span = record { from = t.from; to = t.to } })
unfolding placed
placed-it t text e = ap (placed t) e

-- ---- words and signs

pub accepts-end : (kind : TokenKind) (i : Input) → left i ≡ [] → Accepts (exactly kind) i false i
accepts-end kind i e = record { steps = steps-not i; took = taken-nil (exactly kind) (left i) e }

exactly-at : (kind : TokenKind) (t : Token) (b : Truth) → same_kind kind t.kind ≡ b → exactly kind t ≡ (if b then Some t else None)
exactly-at kind t b e = ap (λ v. elim v as (λ v. Option Token) [ true ↦ Some t | false ↦ None ]) e ∙ at b
  where
    at : (b : Truth) → elim b as (λ v. Option Token) [ true ↦ Some t | false ↦ None ] ≡ (if b then Some t else None)
    at true = refl
    at false = refl

pub accepts-not : (kind : TokenKind) (i : Input) (t : Token) → left i ≡ t ∷ left (next i) → same_kind kind t.kind ≡ false → Accepts (exactly kind) i false i
accepts-not kind i t e h = record {
  steps = steps-not i;
  took = taken-cons (exactly kind) (left i) t (left (next i)) e ∙ ap (option_map (λ x. (x, left (next i)))) (exactly-at kind t false h);
}

pub accepts-it : (kind : TokenKind) (i j : Input) (t : Token) → left i ≡ t ∷ left (next i) → same_kind kind t.kind ≡ true → j ≡ next i → Accepts (exactly kind) i true j
accepts-it kind i j t e h is = record {
  steps = steps-one i j t e is;
  took = taken-cons (exactly kind) (left i) t (left (next i)) e ∙ ap (option_map (λ x. (x, left (next i)))) (exactly-at kind t true h)
      ∙ ap (λ (k : Input). Some (t, left k)) (sym is) ∙ ap (λ u. Some (u, left j)) (sym (ap first e));
}

taken-none : {A : Type 0} (p : Token → Option A) (s : List Token) → ((t : Token) → p t ≡ None) → taken p s ≡ None
unfolding taken
taken-none p [] h = refl
taken-none p (t ∷ ts) h = ap (option_map (λ x. (x, ts))) (h t)

pub accepts-never : (p : Token → Option Token) (i : Input) → ((t : Token) → p t ≡ None) → Accepts p i false i
accepts-never p i h = record { steps = steps-not i; took = taken-none p (left i) h }

-- ---- tests of kinds

pub is_same-sym : (a b : Text) → is_same a b ≡ is_same b a
is_same-sym a b = (lists_equiv nat_eq_equiv).symm a b

pub says-same : (w : Text) (kind : TokenKind) → says w kind ≡ same_kind (word w) kind
says-same w (name text) = refl
says-same w (word text) = is_same-sym text w
says-same w (number z a) = refl
says-same w (sign text) = refl

pub shows-same : (s : Text) (kind : TokenKind) → shows s kind ≡ same_kind (sign s) kind
shows-same s (name text) = refl
shows-same s (word text) = refl
shows-same s (number z a) = refl
shows-same s (sign text) = is_same-sym text s
