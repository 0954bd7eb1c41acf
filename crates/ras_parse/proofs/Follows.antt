-- What a reader comes to, one call at a time.
use Rattle.std.specs.Prelude.{◌≡◌, ℕ, suc, ◌≤◌, Bool as Truth, true, false, if◌then◌else◌, List, [], ◌∷◌, ◌++◌, length, drop, take, ◌-◌, Option, Some, None, option_map, Result, Ok, Err}
use Rattle.std.proofs.Common.{refl, sym, ap, ap₂, subst, ◌∙◌, arith}
use Rattle.std.proofs.lemmas.Option.{some_pair_parts}
use Rattle.spec_grammar.specs.Tokens.{TokenKind, Token}
use Rattle.law_grammar.specs.Readers.{ReadOutcome, Reader, then_read, refuse, exactly, accept_or, mapped, spanned_after, with_span, before}
use Rattle.ras_parse.specs.declared.stop.Stop.{Stop}
use Rattle.ras_syntax.specs.declared.expr.Expr.{Expr}
use Rattle.ras_syntax.specs.declared.expr.ExprForm.{ExprForm}
use Rattle.spec_grammar.specs.Grammar.{tree}
use Rattle.ras_parse.specs.Inputs.{Input, left, first, taken, Goes, Steps, Accepts, TakesToken, ExpectsKind, Gives, Reads}
use Rattle.ras_parse.proofs.Readings.{chosen, accept_or-is, refuse-is, mapped-is, with_tokens-is}

-- ---- inputs

pub goes-same : (i : Input) → Goes i i
goes-same i = record { same = refl; fewer = omega arith }

pub goes-on : {a b c : Input} → Goes a b → Goes b c → Goes a c
goes-on {a} {b} {c} g h = record {
  same = h.same ∙ g.same;
  fewer = (let k : length (left b) ≤ length (left a) = g.fewer in let m : length (left c) ≤ length (left b) = h.fewer in omega arith);
}

pub goes-step : {old new : Input} (b : Truth) → Steps b old new → Goes old new
goes-step {old} {new} true s = record { same = s.same; fewer = (let k : length (left old) ≡ suc (length (left new)) = s.fewer in omega arith) }
goes-step {old} {new} false s = record { same = s.same; fewer = (let k : length (left old) ≡ length (left new) = s.fewer in omega arith) }

-- ---- words and signs

pub accepted : {p : Token → Option Token} {old new : Input} {b : Truth} → Accepts p old b new → b ≡ true
    → taken p (left old) ≡ Some (first (left old), left new)
accepted {p} {old} {new} {b} h e = subst (λ v. taken p (left old) ≡ (if v then Some (first (left old), left new) else None)) e h.took

pub refused : {p : Token → Option Token} {old new : Input} {b : Truth} → Accepts p old b new → b ≡ false → taken p (left old) ≡ None
refused {p} {old} {new} {b} h e = subst (λ v. taken p (left old) ≡ (if v then Some (first (left old), left new) else None)) e h.took

pub same-left : {p : Token → Option Token} {old new : Input} {b : Truth} → Accepts p old b new → b ≡ false → left old ≡ left new
same-left {p} {old} {new} {b} h e = subst (λ v. left old ≡ (if v then first (left old) ∷ left new else left new)) e h.steps.is

pub goes-by : {p : Token → Option Token} {old new : Input} {b : Truth} → Accepts p old b new → Goes old new
goes-by {b} h = goes-step b h.steps

-- ---- calls at the end of a function

pub gives-on : {A : Type 0} (o p : ReadOutcome A) (a b c : Input) (r : Result A Stop) → o ≡ p → Goes a b → Gives p b r c → Gives o a r c
gives-on o p a b c (Ok x) e g h = (goes-on g h.0, e ∙ h.1)
gives-on o p a b c (Err u) e g h = λ k. e ∙ h k

-- what a reader comes to further on
pub tail : {A : Type 0} {f k : Reader A} {a b c : Input} {r : Result A Stop} → f (left a) ≡ k (left b) → Goes a b → Reads k b r c → Reads f a r c
tail {A} {f} {k} {a} {b} {c} {r} e g h = record { gives = gives-on (f (left a)) (k (left b)) a b c r e g h.gives }

-- ---- spans

-- the tokens before what is left, where the first was read before
pub before-one : (t : Token) (s rest : List Token) → length rest ≤ length s → before (t ∷ s) rest ≡ t ∷ before s rest
before-one t s rest h = ap (λ n. take n (t ∷ s)) (let e : suc (length s) - length rest ≡ suc (length s - length rest) = omega arith in e)

-- the tree of a production whose first token was read before
pub spanned : (t : Token) (f : Reader ExprForm) (old mid new : Input) (form : ExprForm) → left old ≡ t ∷ left mid → Reads f mid (Ok form) new
    → spanned_after (t ∷ []) f (left mid) ≡ Ok (tree (before (left old) (left new)) form, left new)
spanned t f old mid new form is h =
    with_tokens-is (mapped (λ form ts. tree ((t ∷ []) ++ ts) form) f) (left mid)
    ∙ ap (λ o. then_read o (λ (told : List Token → Expr) rest. Ok (told (before (left mid) rest), rest)))
    (mapped-is (λ form ts. tree ((t ∷ []) ++ ts) form) f (left mid) ∙ ap (λ o. then_read o (λ form rest. Ok ((λ ts. tree ((t ∷ []) ++ ts) form), rest))) h.gives.1)
    ∙ ap (λ ts. Ok (tree ts form, left new)) (sym (before-one t (left mid) (left new) h.gives.0.fewer) ∙ ap (λ ts. before ts (left new)) (sym is))

pub spanned-wrong : (t : Token) (f : Reader ExprForm) (mid new : Input) → f (left mid) ≡ Err (left new) → spanned_after (t ∷ []) f (left mid) ≡ Err (left new)
spanned-wrong t f mid new h =
    with_tokens-is (mapped (λ form ts. tree ((t ∷ []) ++ ts) form) f) (left mid)
    ∙ ap (λ o. then_read o (λ (told : List Token → Expr) rest. Ok (told (before (left mid) rest), rest)))
    (mapped-is (λ form ts. tree ((t ∷ []) ++ ts) form) f (left mid) ∙ ap (λ o. then_read o (λ form rest. Ok ((λ ts. tree ((t ∷ []) ++ ts) form), rest))) h)

-- a tree that was made of what was read since a place
pub made : (start : ℕ) (old new : Input) (form : ExprForm) (e : Expr) → start ≡ old.at → new.tokens ≡ old.tokens
    → e ≡ tree (before (drop start new.tokens) (left new)) form → e ≡ tree (before (left old) (left new)) form
made start old new form e is same h = h ∙ ap₂ (λ n ts. tree (before (drop n ts) (left new)) form) is same

-- ---- alternatives

pub skipped : {p : Token → Option Token} {old new : Input} {b : Truth} → Accepts p old b new → b ≡ false
    → {B : Type 0} (g : Token → Reader B) (f : Reader B) → accept_or p g f (left old) ≡ f (left new)
skipped {p} {old} {new} h e g f = accept_or-is p g f (left old) ∙ ap (λ o. chosen o g (f (left old))) (refused h e) ∙ ap f (same-left h e)

pub entered : {p : Token → Option Token} {old new : Input} {b : Truth} → Accepts p old b new → b ≡ true
    → {B : Type 0} (g : Token → Reader B) (f : Reader B) → accept_or p g f (left old) ≡ g (first (left old)) (left new)
entered {p} {old} {new} h e g f = accept_or-is p g f (left old) ∙ ap (λ o. chosen o g (f (left old))) (accepted h e)

pub first-left : {p : Token → Option Token} {old new : Input} {b : Truth} → Accepts p old b new → b ≡ true → left old ≡ first (left old) ∷ left new
first-left {p} {old} {new} {b} h e = subst (λ v. left old ≡ (if v then first (left old) ∷ left new else left new)) e h.steps.is

pub missed : {A : Type 0} {p : Token → Option A} {old new : Input} → TakesToken p old None new
    → {B : Type 0} (g : A → Reader B) (f : Reader B) → accept_or p g f (left old) ≡ f (left new)
missed {A} {p} {old} {new} h g f = accept_or-is p g f (left old) ∙ ap (λ o. chosen o g (f (left old))) h.took ∙ ap f h.steps.is

pub met : {A : Type 0} {p : Token → Option A} {old new : Input} {x : A} → TakesToken p old (Some x) new
    → {B : Type 0} (g : A → Reader B) (f : Reader B) → accept_or p g f (left old) ≡ g x (left new)
met {A} {p} {old} {new} h g f = accept_or-is p g f (left old) ∙ ap (λ o. chosen o g (f (left old))) h.took

pub goes-past : {A : Type 0} {p : Token → Option A} {old new : Input} {x : Option A} → TakesToken p old x new → Goes old new
goes-past h = goes-step _ h.steps

pub found : (kind : TokenKind) {old new : Input} {u : Unit {0}} → ExpectsKind kind old (Ok u) new
    → {B : Type 0} (g : Token → Reader B) (f : Reader B) → accept_or (exactly kind) g f (left old) ≡ g (first (left old)) (left new)
found kind {old} {new} h g f = accept_or-is (exactly kind) g f (left old) ∙ ap (λ o. chosen o g (f (left old))) h.1

pub taken-first : {A : Type 0} (p : Token → Option A) {s rest : List Token} {x : A} → taken p s ≡ Some (x, rest) → s ≡ first s ∷ rest
unfolding taken
taken-first {A} p {s} {rest} {x} e = at s e
  where
    within : (t : Token) (ts : List Token) (o : Option A) → option_map {U = A × List Token} (λ x. (x, ts)) o ≡ Some (x, rest) → t ∷ ts ≡ t ∷ rest
    within t ts (Some y) e = ap (λ us. t ∷ us) (some_pair_parts y x ts rest e).1
    within t ts None e = absurd (cc)

    at : (s : List Token) → taken p s ≡ Some (x, rest) → s ≡ first s ∷ rest
    at [] e = absurd (cc)
    at (t ∷ ts) e = within t ts (p t) e

pub mapped-reads : {A B : Type 0} (k : A → B) (f : Reader A) {old new : Input} {x : A} → Reads f old (Ok x) new → Reads (mapped k f) old (Ok (k x)) new
mapped-reads k f {old} {new} {x} h = record {
  gives = (h.gives.0, mapped-is k f (left old) ∙ ap (λ o. then_read o (λ x rest. Ok (k x, rest))) h.gives.1);
}

-- the tree of a production that was read since a place, and whose first token was read before
pub spanned-made : (t : Token) (f : Reader ExprForm) (start : ℕ) (from old mid new : Input) (form : ExprForm) (z : Expr) → left from ≡ left old → left old ≡ t ∷ left mid
    → Reads f mid (Ok form) new → start ≡ from.at → new.tokens ≡ from.tokens → z ≡ tree (before (drop start new.tokens) (left new)) form
    → spanned_after (t ∷ []) f (left mid) ≡ Ok (z, left new)
spanned-made t f start from old mid new form z same is h at tokens e =
    spanned t f old mid new form is h
    ∙ ap (λ (x : Expr). Ok (x, left new)) (ap (λ ts. tree (before ts (left new)) form) (sym same) ∙ sym (made start from new form z at tokens e))

-- the same where no token was read before
pub whole-made : (f : Reader ExprForm) (start : ℕ) (from mid new : Input) (form : ExprForm) (z : Expr) → left from ≡ left mid → Reads f mid (Ok form) new
    → start ≡ from.at → new.tokens ≡ from.tokens → z ≡ tree (before (drop start new.tokens) (left new)) form → with_span f (left mid) ≡ Ok (z, left new)
whole-made f start from mid new form z same h at tokens e =
    with_tokens-is (mapped (λ form ts. tree ts form) f) (left mid)
    ∙ ap (λ o. then_read o (λ (told : List Token → Expr) rest. Ok (told (before (left mid) rest), rest)))
    (mapped-is (λ form ts. tree ts form) f (left mid) ∙ ap (λ o. then_read o (λ form rest. Ok ((λ ts. tree ts form), rest))) h.gives.1)
    ∙ ap (λ (x : Expr). Ok (x, left new)) (ap (λ ts. tree (before ts (left new)) form) (sym same) ∙ sym (made start from new form z at tokens e))

pub lost : (kind : TokenKind) (old new : Input) → left new ≡ left old → taken (exactly kind) (left old) ≡ None
    → {B : Type 0} (g : Token → Reader B) → accept_or (exactly kind) g refuse (left old) ≡ Err (left new)
lost kind old new same none g =
    accept_or-is (exactly kind) g refuse (left old) ∙ ap (λ o. chosen o g (refuse (left old))) none ∙ refuse-is (left old) ∙ ap (λ us. Err us) (sym same)

pub whole-wrong : (f : Reader ExprForm) (s rest : List Token) → f s ≡ Err rest → with_span f s ≡ Err rest
whole-wrong f s rest h =
    with_tokens-is (mapped (λ form ts. tree ts form) f) s
    ∙ ap (λ o. then_read o (λ (told : List Token → Expr) us. Ok (told (before s us), us)))
    (mapped-is (λ form ts. tree ts form) f s ∙ ap (λ o. then_read o (λ form us. Ok ((λ ts. tree ts form), us))) h)

pub from-place : (start : ℕ) (old new : Input) → start ≡ old.at → new.tokens ≡ old.tokens → left old ≡ drop start new.tokens
from-place start old new e same = ap₂ (λ n (ts : List Token). drop n ts) (sym e) (sym same)
