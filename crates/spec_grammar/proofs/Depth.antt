-- An expression nests no deeper than it weighs.
use Prim.Native.String.{String as Literal}
use Rattle.std.specs.Prelude.{◌≡◌, ℕ, zero, suc, ◌+◌, ◌<◌, ◌≤◌, List, [], ◌∷◌, ◌++◌, Option}
use Rattle.std.proofs.Common.{ap, arith}
use Rattle.ras_cells.specs.declared.numbers.Op2.{Op2}
use Rattle.ras_syntax.specs.declared.expr.Expr.{Expr}
use Rattle.ras_syntax.specs.declared.expr.Axis.{Axis}
use Rattle.ras_syntax.specs.declared.expr.DomainExpr.{DomainExpr}
use Rattle.spec_grammar.specs.Tokens.{TokenKind, Token}
use Rattle.spec_grammar.specs.Weight.{weight_of, weight_of_kind}
use Rattle.spec_grammar.specs.Grammar.{w, s, IsSign, Rel, Table, IsChain, IsRow, IsCommaList, IsBetween, IsAfter, IsOptional, Level, any, negation, signed, IsEdge, IsAxis, IsIndex, IsBounds, IsDomain, IsArm, InParentheses, Exprs, IsPrimary, IsPart, IsSigned, IsProduct, IsSum, IsCompared, IsNegated, IsBoth, IsEither, IsOverlaid, IsWhole, IsLevel, Nested, IsAt, overlays, eithers, boths, sums, products}
use Rattle.spec_grammar.proofs.Verdicts.{weight_of-append}
use Rattle.spec_grammar.proofs.Nesting.{IsLevel-IsAt, wider}

-- two parts, and two parts with a token between them
record Parts (ts us : List Token) (n : ℕ) : Type 0 where
  left : weight_of ts ≤ n
  right : weight_of us ≤ n

parts : (ts us : List Token) (n : ℕ) → weight_of (ts ++ us) ≤ n → Parts ts us n
parts ts us n light =
    let e : weight_of (ts ++ us) ≡ weight_of ts + weight_of us = weight_of-append ts us in
    record { left = omega arith; right = omega arith }

below : (ts us : List Token) (n : ℕ) → weight_of (ts ++ us) < n → (weight_of ts < n) × (weight_of us < n)
below ts us n light =
    let e : weight_of (ts ++ us) ≡ weight_of ts + weight_of us = weight_of-append ts us in
    (omega arith, omega arith)

tail : (t : Token) (ts : List Token) (n : ℕ) → weight_of (t ∷ ts) ≤ n → weight_of ts ≤ n
tail t ts n light = omega arith

tail-below : (t : Token) (ts : List Token) (n : ℕ) → weight_of (t ∷ ts) < n → weight_of ts < n
tail-below t ts n light = omega arith

-- behind a token that weighs
heavy : (t : Token) (ts : List Token) (n : ℕ) → 1 ≤ weight_of_kind t.kind → weight_of (t ∷ ts) ≤ n → weight_of ts < n
heavy t ts n some light = omega arith

weight-of : (t : Token) (kind : TokenKind) → t.kind ≡ kind → weight_of_kind t.kind ≡ weight_of_kind kind
weight-of t kind e = ap weight_of_kind e

module _ (k : ℕ) where
  module _ {A : Type 0} (I J : Rel A) (f : (ts : List Token) (x : A) → weight_of ts < k → I ts x → J ts x) where
    row : (ts : List Token) (xs : List A) → weight_of ts < k → IsRow I ts xs → IsRow J ts xs
    row ts xs light (IsRow.first h) = IsRow.first (f _ _ light h)
    row ts xs light (IsRow.more {ts = us} {us = vs} hs h) =
        let b : (weight_of us < k) × (weight_of vs < k) = below us vs k light in
        IsRow.more (row us _ b.0 hs) (f vs _ b.1 h)

    comma_list : (ts : List Token) (xs : List A) → weight_of ts < k → IsCommaList I ts xs → IsCommaList J ts xs
    comma_list ts xs light (IsCommaList.first h) = IsCommaList.first (f _ _ light h)
    comma_list ts xs light (IsCommaList.more {ts = us} {us = vs} c hs comma h) =
        let b : (weight_of us < k) × (weight_of (c ∷ vs) < k) = below us (c ∷ vs) k light in
        IsCommaList.more c (comma_list us _ b.0 hs) comma (f vs _ (tail-below c vs k b.1) h)

    between : (opening closing : Literal) → 1 ≤ weight_of_kind (s opening) → (ts : List Token) (x : A) → weight_of ts ≤ k
        → IsBetween opening closing I ts x → IsBetween opening closing J ts x
    between opening closing some ts x light (IsBetween.between {ts = us} o c left h right) =
        let e : weight_of_kind o.kind ≡ weight_of_kind (s opening) = weight-of o (s opening) left in
        let b : weight_of (us ++ c ∷ []) < k = heavy o (us ++ c ∷ []) k (omega arith) light in
        IsBetween.between o c left (f us x (below us (c ∷ []) k b).0 h) right

    after : (keyword : Literal) (ts : List Token) (x : A) → weight_of ts < k → IsAfter keyword I ts x → IsAfter keyword J ts x
    after keyword ts x light (IsAfter.after {ts = us} t is h) = IsAfter.after t is (f us x (tail-below t us k light) h)

    optional : (ts : List Token) (x : Option A) → weight_of ts < k → IsOptional I ts x → IsOptional J ts x
    optional ts x light IsOptional.absent = IsOptional.absent
    optional ts x light (IsOptional.present h) = IsOptional.present (f _ _ light h)

  module _ (operators : Table Op2) (I J : Rel Expr) (f : (ts : List Token) (x : Expr) → weight_of ts ≤ k → I ts x → J ts x) where
    chain : (ts : List Token) (x : Expr) → weight_of ts ≤ k → IsChain operators I ts x → IsChain operators J ts x
    chain ts x light (IsChain.alone h) = IsChain.alone (f _ _ light h)
    chain ts x light (IsChain.more {ts = us} {us = vs} o op hs means h) =
        let b : Parts us (o ∷ vs) k = parts us (o ∷ vs) k light in
        IsChain.more o op (chain us _ b.left hs) means (f vs _ (tail o vs k b.right) h)

  -- expressions of the whole grammar that weigh less than the number
  abbrev Less : Level → Rel Expr
  Less level ts x = IsAt level ts x × (weight_of ts < k)

  less : (level : Level) (ts : List Token) (x : Expr) → weight_of ts < k → IsAt level ts x → Less level ts x
  less level ts x light h = (h, light)

  edge : (ts : List Token) (x : Option Expr) → weight_of ts < k → IsEdge IsAt ts x → IsEdge Less ts x
  edge ts x light (IsEdge.own t is) = IsEdge.own t is
  edge ts x light (IsEdge.written h) = IsEdge.written (h, light)

  axis : (ts : List Token) (x : Axis) → weight_of ts < k → IsAxis IsAt ts x → IsAxis Less ts x
  axis ts x light (IsAxis.at h) = IsAxis.at (h, light)
  axis ts x light (IsAxis.trim {ts = us} {us = vs} c lo colon hi) =
      let b : (weight_of us < k) × (weight_of (c ∷ vs) < k) = below us (c ∷ vs) k light in
      IsAxis.trim c (edge us _ b.0 lo) colon (edge vs _ (tail-below c vs k b.1) hi)

  bounds : (ts : List Token) (x : Expr × Expr) → weight_of ts < k → IsBounds IsAt ts x → IsBounds Less ts x
  bounds ts x light (IsBounds.bounds {ts = us} {us = vs} c lo colon hi) =
      let b : (weight_of us < k) × (weight_of (c ∷ vs) < k) = below us (c ∷ vs) k light in
      IsBounds.bounds c (lo, b.0) colon (hi, tail-below c vs k b.1)

  exprs : (ts : List Token) (xs : List Expr) → weight_of ts < k → Exprs IsAt ts xs → Exprs Less ts xs
  exprs = comma_list (IsAt any) (Less any) (less any)

  index : (ts : List Token) (xs : List Axis) → weight_of ts ≤ k → IsIndex IsAt ts xs → IsIndex Less ts xs
  index = between (IsCommaList (IsAxis IsAt)) (IsCommaList (IsAxis Less)) (comma_list (IsAxis IsAt) (IsAxis Less) axis) "[" "]" (omega arith)

  parentheses : (ts : List Token) (x : Expr) → weight_of ts ≤ k → InParentheses IsAt ts x → InParentheses Less ts x
  parentheses = between (IsAt any) (Less any) (less any) "(" ")" (omega arith)

  domain : (ts : List Token) (x : DomainExpr) → weight_of ts ≤ k → IsDomain IsAt ts x → IsDomain Less ts x
  domain ts x light (IsDomain.literal h) = IsDomain.literal
      (between (IsCommaList (IsBounds IsAt)) (IsCommaList (IsBounds Less)) (comma_list (IsBounds IsAt) (IsBounds Less) bounds) "[" "]" (omega arith) _ _ light h)
  domain ts x light (IsDomain.of_array {ts = us} t is h) = IsDomain.of_array t is (parentheses us _ (tail t us k light) h)

  arm : (ts : List Token) (x : Expr × Expr) → weight_of ts < k → IsArm IsAt ts x → IsArm Less ts x
  arm ts x light (IsArm.arm {ts = us} {us = vs} t u when c then' h) =
      let b : (weight_of us < k) × (weight_of (u ∷ vs) < k) = below us (u ∷ vs) k (tail-below t (us ++ u ∷ vs) k light) in
      IsArm.arm t u when (c, b.0) then' (h, tail-below u vs k b.1)

  -- what a call with two parts weighs behind its word
  inside : (o c p : Token) (us vs : List Token) → IsSign "(" o → weight_of (o ∷ us ++ c ∷ vs ++ p ∷ []) ≤ k → (weight_of us < k) × (weight_of vs < k)
  inside o c p us vs left light =
      let e : weight_of_kind o.kind ≡ 2 = weight-of o (s "(") left in
      let r : (weight_of (us ++ c ∷ vs) < k) × (weight_of (p ∷ []) < k) =
      below (us ++ c ∷ vs) (p ∷ []) k (heavy o (us ++ c ∷ vs ++ p ∷ []) k (omega arith) light) in
      let q : (weight_of us < k) × (weight_of (c ∷ vs) < k) = below us (c ∷ vs) k r.0 in
      (q.0, tail-below c vs k q.1)

  primary : (ts : List Token) (x : Expr) → weight_of ts ≤ k → IsPrimary IsAt ts x → IsPrimary Less ts x
  primary ts x light (IsPrimary.number t z a is) = IsPrimary.number t z a is
  primary ts x light (IsPrimary.truth t b is) = IsPrimary.truth t b is
  primary ts x light (IsPrimary.name t text is) = IsPrimary.name t text is
  primary ts x light (IsPrimary.parentheses h) = IsPrimary.parentheses (parentheses _ _ light h)
  primary ts x light (IsPrimary.braces h few) = IsPrimary.braces (between (Exprs IsAt) (Exprs Less) exprs "{" "}" (omega arith) _ _ light h) few
  primary ts x light (IsPrimary.struct {ts = us} t is h few) =
      IsPrimary.struct t is (between (Exprs IsAt) (Exprs Less) exprs "{" "}" (omega arith) us _ (tail t us k light) h) few
  primary ts x light (IsPrimary.choice {ts = us} {us = vs} t e n case arms else h end) =
      let one : weight_of_kind t.kind ≡ 1 = weight-of t (w "case") case in
      let r : (weight_of (us ++ e ∷ vs) < k) × (weight_of (n ∷ []) < k) =
      below (us ++ e ∷ vs) (n ∷ []) k (heavy t (us ++ e ∷ vs ++ n ∷ []) k (omega arith) light) in
      let q : (weight_of us < k) × (weight_of (e ∷ vs) < k) = below us (e ∷ vs) k r.0 in
      IsPrimary.choice t e n case (row (IsArm IsAt) (IsArm Less) arm us _ q.0 arms) else (h, tail-below e vs k q.1) end
  primary ts x light (IsPrimary.call {ts = us} {us = vs} g o c p op means left a comma b right) =
      let i : (weight_of us < k) × (weight_of vs < k) = inside o c p us vs left (tail g (o ∷ us ++ c ∷ vs ++ p ∷ []) k light) in
      IsPrimary.call g o c p op means left (a, i.0) comma (b, i.1) right
  primary ts x light (IsPrimary.abs {ts = us} g is h) = IsPrimary.abs g is (parentheses us _ (tail g us k light) h)
  primary ts x light (IsPrimary.folded {ts = us} g fold means h) = IsPrimary.folded g fold means (parentheses us _ (tail g us k light) h)
  primary ts x light (IsPrimary.shift {ts = us} {us = vs} g o c p is left a comma b right) =
      let i : (weight_of us < k) × (weight_of vs < k) = inside o c p us vs left (tail g (o ∷ us ++ c ∷ vs ++ p ∷ []) k light) in
      IsPrimary.shift g o c p is left (a, i.0) comma (between (Exprs IsAt) (Exprs Less) exprs "[" "]" (omega arith) vs _ (let j : weight_of vs < k = i.1 in omega arith) b) right
  primary ts x light (IsPrimary.extend {ts = us} {us = vs} g o c p is left a comma b right) =
      let i : (weight_of us < k) × (weight_of vs < k) = inside o c p us vs left (tail g (o ∷ us ++ c ∷ vs ++ p ∷ []) k light) in
      IsPrimary.extend g o c p is left (a, i.0) comma (domain vs _ (let j : weight_of vs < k = i.1 in omega arith) b) right
  primary ts x light (IsPrimary.sdom {ts = us} g is h) = IsPrimary.sdom g is (parentheses us _ (tail g us k light) h)
  primary ts x light (IsPrimary.oid g is h) = IsPrimary.oid g is h

  part : (ts : List Token) (x : Expr) → weight_of ts ≤ k → IsPart IsAt ts x → IsPart Less ts x
  part ts x light (IsPart.alone h) = IsPart.alone (primary _ _ light h)
  part ts x light (IsPart.indexed {ts = us} {us = vs} h i) =
      let b : Parts us vs k = parts us vs k light in
      IsPart.indexed (part us _ b.left h) (index vs _ b.right i)
  part ts x light (IsPart.named {ts = us} d n text h dot is) = IsPart.named d n text (part us _ (parts us (d ∷ n ∷ []) k light).left h) dot is
  part ts x light (IsPart.numbered {ts = us} d n z h dot is) = IsPart.numbered d n z (part us _ (parts us (d ∷ n ∷ []) k light).left h) dot is

  -- a cast's parentheses weigh
  cast_weighs : (ts : List Token) {A : Type 0} (I : Rel A) (x : A) → IsBetween "(" ")" I ts x → 1 ≤ weight_of ts
  cast_weighs ts I x (IsBetween.between o c left h right) = let e : weight_of_kind o.kind ≡ 2 = weight-of o (s "(") left in omega arith

  signed' : (ts : List Token) (x : Expr) → weight_of ts ≤ k → IsSigned IsAt ts x → IsSigned Less ts x
  signed' ts x light (IsSigned.minus {ts = us} m is h) =
      let one : weight_of_kind m.kind ≡ 1 = weight-of m (s "-") is in
      IsSigned.minus m is (h, heavy m us k (omega arith) light)
  signed' ts x light (IsSigned.cast {ts = us} {us = vs} a h) =
      let e : weight_of (us ++ vs) ≡ weight_of us + weight_of vs = weight_of-append us vs in
      let some : 1 ≤ weight_of us = cast_weighs us _ _ a in
      IsSigned.cast a (h, omega arith)
  signed' ts x light (IsSigned.part h) = IsSigned.part (part _ _ light h)

  product : (ts : List Token) (x : Expr) → weight_of ts ≤ k → IsProduct IsAt ts x → IsProduct Less ts x
  product = chain products (IsSigned IsAt) (IsSigned Less) signed'

  sum : (ts : List Token) (x : Expr) → weight_of ts ≤ k → IsSum IsAt ts x → IsSum Less ts x
  sum = chain sums (IsProduct IsAt) (IsProduct Less) product

  compared : (ts : List Token) (x : Expr) → weight_of ts ≤ k → IsCompared IsAt ts x → IsCompared Less ts x
  compared ts x light (IsCompared.alone h) = IsCompared.alone (sum _ _ light h)
  compared ts x light (IsCompared.compared {ts = us} {us = vs} o op a means b) =
      let p : Parts us (o ∷ vs) k = parts us (o ∷ vs) k light in
      IsCompared.compared o op (sum us _ p.left a) means (sum vs _ (tail o vs k p.right) b)

  negated : (ts : List Token) (x : Expr) → weight_of ts ≤ k → IsNegated IsAt ts x → IsNegated Less ts x
  negated ts x light (IsNegated.negated {ts = us} t is h) =
      let one : weight_of_kind t.kind ≡ 1 = weight-of t (w "not") is in
      IsNegated.negated t is (h, heavy t us k (omega arith) light)
  negated ts x light (IsNegated.plain h) = IsNegated.plain (compared _ _ light h)

  conjunction : (ts : List Token) (x : Expr) → weight_of ts ≤ k → IsBoth IsAt ts x → IsBoth Less ts x
  conjunction = chain boths (IsNegated IsAt) (IsNegated Less) negated

  either : (ts : List Token) (x : Expr) → weight_of ts ≤ k → IsEither IsAt ts x → IsEither Less ts x
  either = chain eithers (IsBoth IsAt) (IsBoth Less) conjunction

  overlaid : (ts : List Token) (x : Expr) → weight_of ts ≤ k → IsOverlaid IsAt ts x → IsOverlaid Less ts x
  overlaid = chain overlays (IsEither IsAt) (IsEither Less) either

  whole : (ts : List Token) (x : Expr) → weight_of ts ≤ k → IsWhole IsAt ts x → IsWhole Less ts x
  whole ts x light (IsWhole.marray {ts = us} {us = vs} t n i v y marray is in' d values h) =
      let one : weight_of_kind t.kind ≡ 1 = weight-of t (w "marray") marray in
      let b : weight_of (us ++ v ∷ vs) < k = tail-below i (us ++ v ∷ vs) k (tail-below n (i ∷ us ++ v ∷ vs) k (heavy t (n ∷ i ∷ us ++ v ∷ vs) k (omega arith) light)) in
      let p : (weight_of us < k) × (weight_of (v ∷ vs) < k) = below us (v ∷ vs) k b in
      IsWhole.marray t n i v y marray is in' (domain us _ (let j : weight_of us < k = p.0 in omega arith) d) values (h, tail-below v vs k p.1)
  whole ts x light (IsWhole.condense {ts = us} {us = vs} {vs = ws} t g o n i u op y condense means over is in' d c using h) =
      let one : weight_of_kind t.kind ≡ 1 = weight-of t (w "condense") condense in
      let b : weight_of (us ++ vs ++ u ∷ ws) < k =
      tail-below i (us ++ vs ++ u ∷ ws) k (tail-below n (i ∷ us ++ vs ++ u ∷ ws) k
      (tail-below o (n ∷ i ∷ us ++ vs ++ u ∷ ws) k (tail-below g (o ∷ n ∷ i ∷ us ++ vs ++ u ∷ ws) k (heavy t (g ∷ o ∷ n ∷ i ∷ us ++ vs ++ u ∷ ws) k (omega arith) light)))) in
      let q : (weight_of (us ++ vs) < k) × (weight_of (u ∷ ws) < k) = below (us ++ vs) (u ∷ ws) k b in
      let p : (weight_of us < k) × (weight_of vs < k) = below us vs k q.0 in
      IsWhole.condense t g o n i u op y condense means over is in' (domain us _ (let j : weight_of us < k = p.0 in omega arith) d)
      (optional (IsAfter "where" (IsAt any)) (IsAfter "where" (Less any)) (after (IsAt any) (Less any) (less any) "where") vs _ p.1 c)
      using (h, tail-below u ws k q.1)
  whole ts x light (IsWhole.concat {ts = us} {us = vs} t a n z concat h hs along is) =
      let one : weight_of_kind t.kind ≡ 1 = weight-of t (w "concat") concat in
      let q : (weight_of (us ++ vs) < k) × (weight_of (a ∷ n ∷ []) < k) =
      below (us ++ vs) (a ∷ n ∷ []) k (heavy t (us ++ vs ++ a ∷ n ∷ []) k (omega arith) light) in
      let p : (weight_of us < k) × (weight_of vs < k) = below us vs k q.0 in
      IsWhole.concat t a n z concat (h, p.0)
      (row (IsAfter "with" (IsAt any)) (IsAfter "with" (Less any)) (after (IsAt any) (Less any) (less any) "with") vs _ p.1 hs)
      along is
  whole ts x light (IsWhole.overlaid h) = IsWhole.overlaid (overlaid _ _ light h)

  at_level : (level : Level) (ts : List Token) (x : Expr) → weight_of ts ≤ k → IsLevel IsAt level ts x → IsLevel Less level ts x
  at_level any ts x light h = whole ts x light h
  at_level negation ts x light h = negated ts x light h
  at_level signed ts x light h = signed' ts x light h

no_less : (n : ℕ) → n < 0 → ⊥
no_less n h = omega arith

pub shallow : (k : ℕ) (level : Level) (ts : List Token) (x : Expr) → weight_of ts ≤ k → IsAt level ts x → Nested (suc k) level ts x
shallow zero level ts x light h = wider (Less zero) (Nested zero) (λ l us y p. absurd (no_less (weight_of us) p.1)) level ts x
    (at_level zero level ts x light ((IsLevel-IsAt level ts x).1 h))
shallow (suc k) level ts x light h = wider (Less (suc k)) (Nested (suc k))
    (λ l us y p. shallow k l us y (let lighter : weight_of us < suc k = p.1 in omega arith) p.0) level ts x
    (at_level (suc k) level ts x light ((IsLevel-IsAt level ts x).1 h))
