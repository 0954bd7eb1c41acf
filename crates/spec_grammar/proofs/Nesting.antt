-- What holds of expressions nested less deep than some number holds of those nested to any depth, and the other way round.
use Prim.Native.String.{String as Literal}
use Rattle.std.specs.Prelude.{◌≡◌, ℕ, zero, suc, ◌+◌, ◌-◌, ◌≤◌, ◌↔◌, List, Option}
use Rattle.std.proofs.Common.{arith, subst}
use Rattle.ras_cells.specs.declared.numbers.Op2.{Op2}
use Rattle.ras_syntax.specs.declared.expr.Expr.{Expr}
use Rattle.ras_syntax.specs.declared.expr.Axis.{Axis}
use Rattle.ras_syntax.specs.declared.expr.DomainExpr.{DomainExpr}
use Rattle.spec_grammar.specs.Tokens.{Token}
use Rattle.spec_grammar.specs.Grammar.{Rel, Table, IsChain, IsRow, IsCommaList, IsBetween, IsAfter, IsOptional, Level, any, negation, signed, IsEdge, IsAxis, IsIndex, IsBounds, IsDomain, IsArm, InParentheses, Exprs, IsPrimary, IsPart, IsSigned, IsProduct, IsSum, IsCompared, IsNegated, IsBoth, IsEither, IsOverlaid, IsWhole, IsLevel, Nested, IsAt, overlays, eithers, boths, sums, products}

-- true from some number on
record Eventually (P : ℕ → Type 0) : Type 0 where
  start : ℕ
  holds : (m : ℕ) → start ≤ m → P m

always : {P : ℕ → Type 0} → ((m : ℕ) → P m) → Eventually P
always h = record { start = 0; holds = λ m later. h m }

lift : {P Q : ℕ → Type 0} → ((m : ℕ) → P m → Q m) → Eventually P → Eventually Q
lift f a = record { start = a.start; holds = λ m later. f m (a.holds m later) }

both : {P Q R : ℕ → Type 0} → ((m : ℕ) → P m → Q m → R m) → Eventually P → Eventually Q → Eventually R
both f a b = record {
  start = a.start + b.start;
  holds = λ m later. f m (a.holds m (let h : a.start + b.start ≤ m = later in omega arith)) (b.holds m (let h : a.start + b.start ≤ m = later in omega arith));
}

three : {P Q R S : ℕ → Type 0} → ((m : ℕ) → P m → Q m → R m → S m) → Eventually P → Eventually Q → Eventually R → Eventually S
three {Q} {R} f a b c = both {Q = λ m. Q m × R m} (λ m p h. f m p h.0 h.1) a (both (λ m q r. (q, r)) b c)

-- ---- lists, brackets and options

module _ {A : Type 0} (I : Rel A) (J : ℕ → Rel A) (f : (ts : List Token) (x : A) → I ts x → Eventually (λ m. J m ts x)) where
  row : {ts : List Token} {xs : List A} → IsRow I ts xs → Eventually (λ m. IsRow (J m) ts xs)
  row (IsRow.first h) = lift (λ m. IsRow.first) (f _ _ h)
  row (IsRow.more hs h) = both (λ m. IsRow.more) (row hs) (f _ _ h)

  comma_list : {ts : List Token} {xs : List A} → IsCommaList I ts xs → Eventually (λ m. IsCommaList (J m) ts xs)
  comma_list (IsCommaList.first h) = lift (λ m. IsCommaList.first) (f _ _ h)
  comma_list (IsCommaList.more c hs comma h) = both (λ m ps p. IsCommaList.more c ps comma p) (comma_list hs) (f _ _ h)

  between : {opening closing : Literal} {ts : List Token} {x : A} → IsBetween opening closing I ts x
      → Eventually (λ m. IsBetween opening closing (J m) ts x)
  between (IsBetween.between o c left h right) = lift (λ m p. IsBetween.between o c left p right) (f _ _ h)

  after : {keyword : Literal} {ts : List Token} {x : A} → IsAfter keyword I ts x → Eventually (λ m. IsAfter keyword (J m) ts x)
  after (IsAfter.after k is h) = lift (λ m p. IsAfter.after k is p) (f _ _ h)

  optional : {ts : List Token} {x : Option A} → IsOptional I ts x → Eventually (λ m. IsOptional (J m) ts x)
  optional IsOptional.absent = always (λ m. IsOptional.absent)
  optional (IsOptional.present h) = lift (λ m. IsOptional.present) (f _ _ h)

module _ (operators : Table Op2) (I : Rel Expr) (J : ℕ → Rel Expr) (f : (ts : List Token) (x : Expr) → I ts x → Eventually (λ m. J m ts x)) where
  chain : {ts : List Token} {x : Expr} → IsChain operators I ts x → Eventually (λ m. IsChain operators (J m) ts x)
  chain (IsChain.alone h) = lift (λ m. IsChain.alone) (f _ _ h)
  chain (IsChain.more o op hs means h) = both (λ m ps p. IsChain.more o op ps means p) (chain hs) (f _ _ h)

-- ---- the productions

module _ (E : Level → Rel Expr) (F : ℕ → Level → Rel Expr)
    (f : (level : Level) (ts : List Token) (x : Expr) → E level ts x → Eventually (λ m. F m level ts x)) where
  edge : {ts : List Token} {x : Option Expr} → IsEdge E ts x → Eventually (λ m. IsEdge (F m) ts x)
  edge (IsEdge.own t is) = always (λ m. IsEdge.own t is)
  edge (IsEdge.written h) = lift (λ m. IsEdge.written) (f any _ _ h)

  axis : {ts : List Token} {x : Axis} → IsAxis E ts x → Eventually (λ m. IsAxis (F m) ts x)
  axis (IsAxis.at h) = lift (λ m. IsAxis.at) (f any _ _ h)
  axis (IsAxis.trim c lo colon hi) = both (λ m p q. IsAxis.trim c p colon q) (edge lo) (edge hi)

  index : {ts : List Token} {xs : List Axis} → IsIndex E ts xs → Eventually (λ m. IsIndex (F m) ts xs)
  index = between (IsCommaList (IsAxis E)) (λ m. IsCommaList (IsAxis (F m))) (λ ts x. comma_list (IsAxis E) (λ m. IsAxis (F m)) (λ us y. axis))

  bounds : {ts : List Token} {x : Expr × Expr} → IsBounds E ts x → Eventually (λ m. IsBounds (F m) ts x)
  bounds (IsBounds.bounds c lo colon hi) = both (λ m p q. IsBounds.bounds c p colon q) (f any _ _ lo) (f any _ _ hi)

  parentheses : {ts : List Token} {x : Expr} → InParentheses E ts x → Eventually (λ m. InParentheses (F m) ts x)
  parentheses = between (E any) (λ m. F m any) (f any)

  exprs : {ts : List Token} {xs : List Expr} → Exprs E ts xs → Eventually (λ m. Exprs (F m) ts xs)
  exprs = comma_list (E any) (λ m. F m any) (f any)

  bracketed : {opening closing : Literal} {ts : List Token} {xs : List Expr} → IsBetween opening closing (Exprs E) ts xs
      → Eventually (λ m. IsBetween opening closing (Exprs (F m)) ts xs)
  bracketed = between (Exprs E) (λ m. Exprs (F m)) (λ ts x. exprs)

  domain : {ts : List Token} {x : DomainExpr} → IsDomain E ts x → Eventually (λ m. IsDomain (F m) ts x)
  domain (IsDomain.literal h) = lift (λ m. IsDomain.literal)
      (between (IsCommaList (IsBounds E)) (λ m. IsCommaList (IsBounds (F m))) (λ ts x. comma_list (IsBounds E) (λ m. IsBounds (F m)) (λ us y. bounds)) h)
  domain (IsDomain.of_array k is h) = lift (λ m p. IsDomain.of_array k is p) (parentheses h)

  arm : {ts : List Token} {x : Expr × Expr} → IsArm E ts x → Eventually (λ m. IsArm (F m) ts x)
  arm (IsArm.arm k t when c then' h) = both (λ m p q. IsArm.arm k t when p then' q) (f any _ _ c) (f any _ _ h)

  primary : {ts : List Token} {x : Expr} → IsPrimary E ts x → Eventually (λ m. IsPrimary (F m) ts x)
  primary (IsPrimary.number t z a is) = always (λ m. IsPrimary.number t z a is)
  primary (IsPrimary.truth t b is) = always (λ m. IsPrimary.truth t b is)
  primary (IsPrimary.name t text is) = always (λ m. IsPrimary.name t text is)
  primary (IsPrimary.parentheses h) = lift (λ m. IsPrimary.parentheses) (parentheses h)
  primary (IsPrimary.braces h few) = lift (λ m p. IsPrimary.braces p few) (bracketed h)
  primary (IsPrimary.struct k is h few) = lift (λ m p. IsPrimary.struct k is p few) (bracketed h)
  primary (IsPrimary.choice k e n case arms else h end) =
      both (λ m p q. IsPrimary.choice k e n case p else q end) (row (IsArm E) (λ m. IsArm (F m)) (λ us y. arm) arms) (f any _ _ h)
  primary (IsPrimary.call g o c p op means left a comma b right) =
      both (λ m q r. IsPrimary.call g o c p op means left q comma r right) (f any _ _ a) (f any _ _ b)
  primary (IsPrimary.abs g is h) = lift (λ m p. IsPrimary.abs g is p) (parentheses h)
  primary (IsPrimary.folded g fold means h) = lift (λ m p. IsPrimary.folded g fold means p) (parentheses h)
  primary (IsPrimary.shift g o c p is left a comma b right) =
      both (λ m q r. IsPrimary.shift g o c p is left q comma r right) (f any _ _ a) (bracketed b)
  primary (IsPrimary.extend g o c p is left a comma b right) =
      both (λ m q r. IsPrimary.extend g o c p is left q comma r right) (f any _ _ a) (domain b)
  primary (IsPrimary.sdom g is h) = lift (λ m p. IsPrimary.sdom g is p) (parentheses h)
  primary (IsPrimary.oid g is h) = always (λ m. IsPrimary.oid g is h)

  part : {ts : List Token} {x : Expr} → IsPart E ts x → Eventually (λ m. IsPart (F m) ts x)
  part (IsPart.alone h) = lift (λ m. IsPart.alone) (primary h)
  part (IsPart.indexed h i) = both (λ m. IsPart.indexed) (part h) (index i)
  part (IsPart.named d n text h dot is) = lift (λ m p. IsPart.named d n text p dot is) (part h)
  part (IsPart.numbered d n z h dot is) = lift (λ m p. IsPart.numbered d n z p dot is) (part h)

  signed' : {ts : List Token} {x : Expr} → IsSigned E ts x → Eventually (λ m. IsSigned (F m) ts x)
  signed' (IsSigned.minus k is h) = lift (λ m p. IsSigned.minus k is p) (f signed _ _ h)
  signed' (IsSigned.cast a h) = lift (λ m p. IsSigned.cast a p) (f signed _ _ h)
  signed' (IsSigned.part h) = lift (λ m. IsSigned.part) (part h)

  product : {ts : List Token} {x : Expr} → IsProduct E ts x → Eventually (λ m. IsProduct (F m) ts x)
  product = chain products (IsSigned E) (λ m. IsSigned (F m)) (λ us y. signed')

  sum : {ts : List Token} {x : Expr} → IsSum E ts x → Eventually (λ m. IsSum (F m) ts x)
  sum = chain sums (IsProduct E) (λ m. IsProduct (F m)) (λ us y. product)

  compared : {ts : List Token} {x : Expr} → IsCompared E ts x → Eventually (λ m. IsCompared (F m) ts x)
  compared (IsCompared.alone h) = lift (λ m. IsCompared.alone) (sum h)
  compared (IsCompared.compared o op a means b) = both (λ m p q. IsCompared.compared o op p means q) (sum a) (sum b)

  negated : {ts : List Token} {x : Expr} → IsNegated E ts x → Eventually (λ m. IsNegated (F m) ts x)
  negated (IsNegated.negated k is h) = lift (λ m p. IsNegated.negated k is p) (f negation _ _ h)
  negated (IsNegated.plain h) = lift (λ m. IsNegated.plain) (compared h)

  conjunction : {ts : List Token} {x : Expr} → IsBoth E ts x → Eventually (λ m. IsBoth (F m) ts x)
  conjunction = chain boths (IsNegated E) (λ m. IsNegated (F m)) (λ us y. negated)

  either : {ts : List Token} {x : Expr} → IsEither E ts x → Eventually (λ m. IsEither (F m) ts x)
  either = chain eithers (IsBoth E) (λ m. IsBoth (F m)) (λ us y. conjunction)

  overlaid : {ts : List Token} {x : Expr} → IsOverlaid E ts x → Eventually (λ m. IsOverlaid (F m) ts x)
  overlaid = chain overlays (IsEither E) (λ m. IsEither (F m)) (λ us y. either)

  whole : {ts : List Token} {x : Expr} → IsWhole E ts x → Eventually (λ m. IsWhole (F m) ts x)
  whole (IsWhole.marray k n i v x marray is in' d values h) =
      both (λ m p q. IsWhole.marray k n i v x marray is in' p values q) (domain d) (f any _ _ h)
  whole (IsWhole.condense k g o n i u op x condense means over is in' d c using h) =
      three (λ m p q r. IsWhole.condense k g o n i u op x condense means over is in' p q using r)
      (domain d) (optional (IsAfter "where" (E any)) (λ m. IsAfter "where" (F m any)) (λ us y. after (E any) (λ m. F m any) (f any)) c) (f any _ _ h)
  whole (IsWhole.concat k a n z concat h hs along is) =
      both (λ m p q. IsWhole.concat k a n z concat p q along is) (f any _ _ h)
      (row (IsAfter "with" (E any)) (λ m. IsAfter "with" (F m any)) (λ us y. after (E any) (λ m. F m any) (f any)) hs)
  whole (IsWhole.overlaid h) = lift (λ m. IsWhole.overlaid) (overlaid h)

  at_level : (level : Level) (ts : List Token) (x : Expr) → IsLevel E level ts x → Eventually (λ m. IsLevel (F m) level ts x)
  at_level any ts x h = whole h
  at_level negation ts x h = negated h
  at_level signed ts x h = signed' h

-- ---- nesting

-- what holds of expressions holds of more expressions
pub wider : (E F : Level → Rel Expr) → ((level : Level) (ts : List Token) (x : Expr) → E level ts x → F level ts x)
    → (level : Level) (ts : List Token) (x : Expr) → IsLevel E level ts x → IsLevel F level ts x
wider E F f level ts x h =
    let found : Eventually (λ m. IsLevel F level ts x) = at_level E (λ m. F) (λ l us y p. always (λ m. f l us y p)) level ts x h in
    found.holds found.start (omega arith)

deeper : (n : ℕ) (level : Level) (ts : List Token) (x : Expr) → Nested n level ts x → Nested (suc n) level ts x
deeper zero level ts x h = elim h [ ]
deeper (suc n) level ts x h = wider (Nested n) (Nested (suc n)) (deeper n) level ts x h

deeper_by : (k n : ℕ) (level : Level) (ts : List Token) (x : Expr) → Nested n level ts x → Nested (k + n) level ts x
deeper_by zero n level ts x h = subst (λ m. Nested m level ts x) (let e : n ≡ 0 + n = omega arith in e) h
deeper_by (suc k) n level ts x h =
    subst (λ m. Nested m level ts x) (let e : suc (k + n) ≡ suc k + n = omega arith in e) (deeper (k + n) level ts x (deeper_by k n level ts x h))

from_number : (level : Level) (ts : List Token) (x : Expr) → IsAt level ts x → Eventually (λ m. Nested m level ts x)
from_number level ts x (n, h) = record {
  start = n;
  holds = λ m later. subst (λ k. Nested k level ts x) (let h' : n ≤ m = later in let e : (m - n) + n ≡ m = omega arith in e) (deeper_by (m - n) n level ts x h);
}

pub IsLevel-IsAt : (level : Level) (ts : List Token) (x : Expr) → IsLevel IsAt level ts x ↔ IsAt level ts x
IsLevel-IsAt level ts x = (there, back)
  where
    there : IsLevel IsAt level ts x → IsAt level ts x
    there h =
        let found : Eventually (λ m. IsLevel (Nested m) level ts x) = at_level IsAt Nested from_number level ts x h in
        (suc found.start, found.holds found.start (omega arith))

    back : IsAt level ts x → IsLevel IsAt level ts x
    back (zero, h) = elim h [ ]
    back (suc n, h) = wider (Nested n) IsAt (λ l us y p. (n, p)) level ts x h
