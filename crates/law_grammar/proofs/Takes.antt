-- A reader takes some tokens before others, and what was built of them.
use Rattle.std.specs.Prelude.{◌≡◌, ℕ, ◌+◌, ◌≤◌, Bool as Truth, true, false, List, [], ◌∷◌, ◌++◌, length, Option, Some, None, Ok}
use Rattle.std.proofs.Common.{refl, sym, ap, ◌∙◌, arith, append_assoc, length-append}
use Rattle.ras_syntax.specs.declared.expr.ExprForm.{ExprForm}
use Rattle.spec_grammar.specs.Tokens.{TokenKind, Token}
use Rattle.spec_grammar.specs.Grammar.{Rel, tree}
use Rattle.law_grammar.specs.Readers.{ReadOutcome, Reader, then_read, same_kind, give, bind, mapped, accept_or, expect, choose, before, with_tokens, spanned_after, with_span, turns, loop_after}
use Rattle.law_grammar.proofs.Good.{before-append, less, less-bound, turn-on, turn-stop, turn-end}
use Rattle.law_grammar.proofs.TokenTests.{is-exactly}
use Rattle.law_grammar.proofs.Ranks.{Stops, Declines}

pub record Takes {A : Type 0} (f : Reader A) (ts : List Token) (x : A) (rest : List Token) : Type 0 where
  pub is : f (ts ++ rest) ≡ Ok (x, rest)

-- all of a form is read where it ends
pub record Complete {A : Type 0} (R : Rel A) (limit : ℕ) (f : Reader A) : Type 0 where
  pub takes : (ts : List Token) (x : A) (rest : List Token) → R ts x → Stops limit rest → Takes f ts x rest

pub give-takes : {A : Type 0} (x : A) (rest : List Token) → Takes (give x) [] x rest
unfolding give
give-takes x rest = record { is = refl }

module _ {A B : Type 0} {f : Reader A} {ts : List Token} {x : A} where
  pub bind-takes : (g : A → Reader B) {us rest : List Token} {y : B} → Takes f ts x (us ++ rest) → Takes (g x) us y rest → Takes (bind f g) (ts ++ us) y rest
  unfolding bind
  bind-takes g {us} {rest} h k = record { is = ap (λ vs. then_read (f vs) g) (append_assoc ts us rest) ∙ ap (λ o. then_read o g) h.is ∙ k.is }

  pub mapped-takes : (h : A → B) {rest : List Token} → Takes f ts x rest → Takes (mapped h f) ts (h x) rest
  unfolding mapped
  mapped-takes h k = record { is = ap (λ o. then_read o (λ x rest. Ok (h x, rest))) k.is }

pub with_tokens-takes : {A : Type 0} {f : Reader (List Token → A)} {ts rest : List Token} {j : List Token → A} → Takes f ts j rest → Takes (with_tokens f) ts (j ts) rest
unfolding with_tokens
with_tokens-takes {ts} {rest} {j} k = record {
  is = ap (λ o. then_read o (λ told left. Ok (told (before (ts ++ rest) left), left))) k.is ∙ ap (λ us. Ok (j us, rest)) (before-append ts rest);
}

pub spanned_after-takes : {f : Reader ExprForm} {ts rest : List Token} {form : ExprForm} (already : List Token) → Takes f ts form rest
    → Takes (spanned_after already f) ts (tree (already ++ ts) form) rest
spanned_after-takes already k = with_tokens-takes (mapped-takes (λ form ts. tree (already ++ ts) form) k)

pub spanned-takes : {f : Reader ExprForm} {ts rest : List Token} {form : ExprForm} → Takes f ts form rest → Takes (with_span f) ts (tree ts form) rest
spanned-takes k = with_tokens-takes (mapped-takes (λ form ts. tree ts form) k)

module _ {A B : Type 0} (p : Token → Option A) (g : A → Reader B) (f : Reader B) {t : Token} {ts : List Token} {y : B} {rest : List Token} where
  pub accept-takes : {x : A} → p t ≡ Some x → Takes (g x) ts y rest → Takes (accept_or p g f) (t ∷ ts) y rest
  unfolding accept_or
  accept-takes {x} e k = record { is = ap (λ o. elim o as (λ v. ReadOutcome B) [ Some x ↦ g x (ts ++ rest) | None ↦ f (t ∷ ts ++ rest) ]) e ∙ k.is }

  pub pass-takes : p t ≡ None → Takes f (t ∷ ts) y rest → Takes (accept_or p g f) (t ∷ ts) y rest
  unfolding accept_or
  pass-takes e k = record { is = ap (λ o. elim o as (λ v. ReadOutcome B) [ Some x ↦ g x (ts ++ rest) | None ↦ f (t ∷ ts ++ rest) ]) e ∙ k.is }

-- nothing is read where the next token is not accepted
pub skip-takes : {A B : Type 0} (p : Token → Option A) (g : A → Reader B) (f : Reader B) (y : B) (rest : List Token) → Declines p rest → Takes f [] y rest
    → Takes (accept_or p g f) [] y rest
unfolding accept_or
skip-takes p g f y [] e k = record { is = k.is }
skip-takes {A} {B} p g f y (t ∷ ts) e k = record { is = ap (λ o. elim o as (λ v. ReadOutcome B) [ Some x ↦ g x ts | None ↦ f (t ∷ ts) ]) e ∙ k.is }

module _ {A : Type 0} {f : Reader A} {ts rest : List Token} {x : A} where
  pub expect-takes : (kind : TokenKind) → same_kind kind kind ≡ true → (t : Token) → t.kind ≡ kind → Takes f ts x rest → Takes (expect kind f) (t ∷ ts) x rest
  expect-takes kind same t is k = accept-takes _ _ _ (is-exactly kind t same is) k

module _ {A : Type 0} (p : Token → Truth) (f g : Reader A) {t : Token} {ts rest : List Token} {x : A} where
  pub first-takes : p t ≡ true → Takes f (t ∷ ts) x rest → Takes (choose p f g) (t ∷ ts) x rest
  unfolding choose
  first-takes e k = record { is = ap (λ b. elim b as (λ v. ReadOutcome A) [ true ↦ f (t ∷ ts ++ rest) | false ↦ g (t ∷ ts ++ rest) ]) e ∙ k.is }

  pub second-takes : p t ≡ false → Takes g (t ∷ ts) x rest → Takes (choose p f g) (t ∷ ts) x rest
  unfolding choose
  second-takes e k = record { is = ap (λ b. elim b as (λ v. ReadOutcome A) [ true ↦ f (t ∷ ts ++ rest) | false ↦ g (t ∷ ts ++ rest) ]) e ∙ k.is }

-- ---- loops

-- after these tokens a loop stands at this rest
pub record Loops {A B : Type 0} (already : List Token) (next : A → Token → Option B) (step : A → B → Reader (List Token → A)) (f : Reader A)
    (ts : List Token) (x : A) (rest : List Token) : Type 0 where
  pub most : ℕ
  pub enough : length rest ≤ most
  pub is : f (ts ++ rest) ≡ turns next step most (already ++ (ts ++ rest)) x rest

module _ {A B : Type 0} (already : List Token) (next : A → Token → Option B) (step : A → B → Reader (List Token → A)) where
  pub loop-starts : {first : Reader A} {ts rest : List Token} {x : A} → Takes first ts x rest
      → Loops already next step (loop_after already first next step) ts x rest
  unfolding loop_after
  loop-starts {first} {ts} {rest} {x} k = record {
    most = length rest;
    enough = omega arith;
    is = ap (λ o. then_read o (λ x left. turns next step (length left) (already ++ (ts ++ rest)) x left)) k.is;
  }

  pub loop-goes_on : (f : Reader A) (ts us rest : List Token) (x : A) (t : Token) (b : B) (j : List Token → A)
      → Loops already next step f ts x (t ∷ us ++ rest) → next x t ≡ Some b → Takes (step x b) us j rest
      → Loops already next step f (ts ++ t ∷ us) (j (already ++ (ts ++ t ∷ us))) rest
  loop-goes_on f ts us rest x t b j h e k = record {
    most = less h.most;
    enough =
        let long : length (t ∷ us ++ rest) ≤ h.most = h.enough in
        let len : length (us ++ rest) ≡ length us + length rest = length-append us rest in
        less-bound h.most (length rest) (omega arith);
    is =
        let whole : (ts ++ t ∷ us) ++ rest ≡ ts ++ (t ∷ us ++ rest) = append_assoc ts (t ∷ us) rest in
        let start : already ++ (ts ++ (t ∷ us ++ rest)) ≡ (already ++ (ts ++ t ∷ us)) ++ rest =
        ap (λ vs. already ++ vs) (sym whole) ∙ sym (append_assoc already (ts ++ t ∷ us) rest) in
        let some : 1 ≤ h.most = (let long : length (t ∷ us ++ rest) ≤ h.most = h.enough in omega arith) in
        ap f whole ∙ h.is
        ∙ turn-on next step (already ++ (ts ++ (t ∷ us ++ rest))) h.most x t b (us ++ rest) j rest some e k.is
        ∙ ap (λ vs. turns next step (less h.most) (already ++ (ts ++ (t ∷ us ++ rest))) (j (before vs rest)) rest) start
        ∙ ap (λ vs. turns next step (less h.most) (already ++ (ts ++ (t ∷ us ++ rest))) (j vs) rest) (before-append (already ++ (ts ++ t ∷ us)) rest)
        ∙ ap (λ vs. turns next step (less h.most) (already ++ vs) (j (already ++ (ts ++ t ∷ us))) rest) (sym whole);
  }

  pub loop-ends : (f : Reader A) (ts : List Token) (x : A) (rest : List Token) → Loops already next step f ts x rest → Declines (next x) rest → Takes f ts x rest
  loop-ends f ts x [] h e = record { is = h.is ∙ turn-end next step (already ++ (ts ++ [])) h.most x }
  loop-ends f ts x (t ∷ rest) h e = record { is = h.is ∙ turn-stop next step (already ++ (ts ++ t ∷ rest)) h.most x t rest e }
