-- Statements close what they open, and hold no more commas in braces than they may.
use Prim.Native.String.{String as Literal}
use Rattle.std.specs.Prelude.{◌≡◌, ℕ, zero, suc, ◌+◌, ◌≤◌, pos, if◌then◌else◌, List, [], ◌∷◌, ◌++◌, length, Option, Some, None, codes}
use Rattle.std.proofs.Common.{refl, ap, ◌∙◌, inl, inr, arith, length-append}
use Rattle.ras_cells.specs.declared.atom.Atom.{Atom}
use Rattle.ras_cells.specs.declared.atom.Atom.TheVariants.{Wide}
use Rattle.ras_cells.specs.declared.numbers.Op2.{Op2}
use Rattle.ras_syntax.specs.declared.span.Spanned.{Spanned}
use Rattle.ras_syntax.specs.declared.expr.Expr.{Expr}
use Rattle.ras_syntax.specs.declared.expr.Axis.{Axis}
use Rattle.ras_syntax.specs.declared.expr.DomainExpr.{DomainExpr}
use Rattle.ras_syntax.specs.declared.statement.SourceName.{SourceName}
use Rattle.ras_syntax.specs.declared.statement.StatementForm.{StatementForm}
use Rattle.spec_grammar.specs.Tokens.{is_same, is_one_of, TokenKind, name, word, number, sign, Token}
use Rattle.spec_grammar.specs.Grammar.{w, s, IsSign, Means, Table, overlays, eithers, boths, comparisons, sums, products, calls, truths, fold_operators, cells_folds, atom_words, unsigned_words, Rel, IsChain, IsRow, IsCommaList, IsBetween, IsAfter, IsOptional, IsNamed, IsAtom, IsSource, Level, any, negation, signed, IsEdge, IsAxis, IsIndex, IsBounds, IsDomain, IsArm, InParentheses, Exprs, IsPrimary, IsPart, IsSigned, IsProduct, IsSum, IsCompared, IsNegated, IsBoth, IsEither, IsOverlaid, IsWhole, IsLevel, IsForm, Nested, IsAt, IsStatement}
use Rattle.ras_cells.specs.declared.TheConstants.{MAX_COMPONENTS}

-- for each bracket that is open, how many commas may still stand in it; None for any number
abbrev pub Open : Type 0
Open = List (Option ℕ)

-- behind a closing sign, a comma and "from"; None where they may not stand
abbrev closed : Open → Option Open
closed [] = None
closed (room ∷ rooms) = Some rooms

abbrev with_comma : Open → Option Open
with_comma [] = None
with_comma (None ∷ rooms) = Some (None ∷ rooms)
with_comma (Some zero ∷ rooms) = None
with_comma (Some (suc n) ∷ rooms) = Some (Some n ∷ rooms)

abbrev with_from : Open → Option Open
with_from [] = None
with_from (room ∷ rooms) = Some (room ∷ rooms)

-- what is open behind a token; braces have 7 commas at most, and "from" stands in no expression
abbrev behind : TokenKind → Open → Option Open
behind (name text) rooms = Some rooms
behind (number z a) rooms = Some rooms
behind (word text) rooms = if is_same (codes "from") text then with_from rooms else Some rooms
behind (sign text) rooms =
    if is_one_of (codes "(" ∷ codes "[" ∷ []) text then Some (None ∷ rooms)
    else if is_same (codes "{") text then Some (Some 7 ∷ rooms)
    else if is_one_of (codes ")" ∷ codes "]" ∷ codes "}" ∷ []) text then closed rooms
    else if is_same (codes ",") text then with_comma rooms
    else Some rooms

abbrev pub behind_all : Option Open → List Token → Option Open
behind_all None ts = None
behind_all (Some rooms) [] = Some rooms
behind_all (Some rooms) (t ∷ ts) = behind_all (behind t.kind rooms) ts

-- before these tokens and behind them so much is open
pub record Leads (ts : List Token) (before after : Open) : Type 0 where
  pub is : behind_all (Some before) ts ≡ Some after

-- the token may stand anywhere, and opens and closes nothing
abbrev IsNeutral : TokenKind → Type 0
IsNeutral kind = (rooms : Open) → behind kind rooms ≡ Some rooms

behind-append : (rooms : Option Open) (ts us : List Token) → behind_all rooms (ts ++ us) ≡ behind_all (behind_all rooms ts) us
behind-append None ts us = refl
behind-append (Some rooms) [] us = refl
behind-append (Some rooms) (t ∷ ts) us = behind-append (behind t.kind rooms) ts us

-- ---- tokens one behind another

nil : {a : Open} → Leads [] a a
nil = record { is = refl }

one : {t : Token} {ts : List Token} {a b c : Open} (kind : TokenKind) → t.kind ≡ kind → behind kind a ≡ Some b → Leads ts b c → Leads (t ∷ ts) a c
one {t} {ts} {a} kind is step more =
    record { is = ap (λ k. behind_all (behind k a) ts) is ∙ ap (λ rooms. behind_all rooms ts) step ∙ more.is }

then' : {ts us : List Token} {a b c : Open} → Leads ts a b → Leads us b c → Leads (ts ++ us) a c
then' {ts} {us} {a} h k = record { is = behind-append (Some a) ts us ∙ ap (λ rooms. behind_all rooms us) h.is ∙ k.is }

-- whatever is open before stays so
abbrev pub IsBalanced : List Token → Type 0
IsBalanced ts = (rooms : Open) → Leads ts rooms rooms

-- a token of a table is neutral where each of the table is
AllNeutral : {A : Type 0} → Table A → Type 0
AllNeutral [] = Unit {0}
AllNeutral (entry ∷ table) = IsNeutral entry.0 × AllNeutral table

meant : {A : Type 0} (table : Table A) (t : Token) (a : A) → AllNeutral table → Means table t a → IsNeutral t.kind
unfolding AllNeutral
meant [] t a all h = elim h [ ]
meant (entry ∷ table) t a all (inl h) = λ rooms. ap (λ k. behind k rooms) h.0 ∙ all.0 rooms
meant (entry ∷ table) t a all (inr h) = meant table t a all.1 h

-- ---- what productions are made of

token : {t : Token} {ts : List Token} {a b : Open} → IsNeutral t.kind → Leads ts a b → Leads (t ∷ ts) a b
token {t} {a} neutral more = one t.kind refl (neutral a) more

module _ {A : Type 0} (I : Rel A) (f : (ts : List Token) (x : A) → I ts x → IsBalanced ts) where
  row : {ts : List Token} {xs : List A} → IsRow I ts xs → IsBalanced ts
  row (IsRow.first h) = f _ _ h
  row (IsRow.more {ts = ts} {us = us} hs h) = λ rooms. then' {ts = ts} {us = us} (row hs rooms) (f _ _ h rooms)

  -- where any number of commas may stand
  comma_list : {ts : List Token} {xs : List A} → IsCommaList I ts xs → (rooms : Open) → Leads ts (None ∷ rooms) (None ∷ rooms)
  comma_list (IsCommaList.first h) rooms = f _ _ h (None ∷ rooms)
  comma_list (IsCommaList.more {ts = ts} {us = us} c hs comma h) rooms =
      then' {ts = ts} {us = c ∷ us} (comma_list hs rooms) (one (s ",") comma refl (f _ _ h (None ∷ rooms)))

  -- where only so many may
  record Spent (ts : List Token) (count n : ℕ) (rooms : Open) : Type 0 where
    rest : ℕ
    spent : rest + count ≡ suc n
    leads : Leads ts (Some n ∷ rooms) (Some rest ∷ rooms)

  few : {ts : List Token} {xs : List A} (n : ℕ) (rooms : Open) → IsCommaList I ts xs → length xs ≤ suc n → Spent ts (length xs) n rooms
  few n rooms (IsCommaList.first h) most = record { rest = n; spent = omega arith; leads = f _ _ h (Some n ∷ rooms) }
  few n rooms (IsCommaList.more {ts = ts} {us = us} {xs = xs} {x = x} c hs comma h) most =
      let before : Spent ts (length xs) n rooms = few n rooms hs (let longer : length (xs ++ x ∷ []) ≡ length xs + 1 = length-append xs (x ∷ []) in omega arith) in
      spend before.rest before.spent before.leads (length-append xs (x ∷ []))
    where
      spend : (m : ℕ) → m + length xs ≡ suc n → Leads ts (Some n ∷ rooms) (Some m ∷ rooms) → length (xs ++ x ∷ []) ≡ length xs + 1
          → Spent (ts ++ c ∷ us) (length (xs ++ x ∷ [])) n rooms
      spend zero spent leads longer = absurd (omega arith)
      spend (suc m) spent leads longer = record {
        rest = m;
        spent = omega arith;
        leads = then' {ts = ts} {us = c ∷ us} leads (one (s ",") comma refl (f _ _ h (Some m ∷ rooms)));
      }

  after : {keyword : Literal} {ts : List Token} {x : A} → IsNeutral (w keyword) → IsAfter keyword I ts x → IsBalanced ts
  after {keyword} neutral (IsAfter.after k is h) = λ rooms. one (w keyword) is (neutral rooms) (f _ _ h rooms)

  optional : {ts : List Token} {x : Option A} → IsOptional I ts x → IsBalanced ts
  optional IsOptional.absent = λ rooms. nil
  optional (IsOptional.present h) = f _ _ h

module _ {A : Type 0} (I : Rel A) (room : Option ℕ) (f : (ts : List Token) (x : A) → I ts x → (rooms : Open) → (r : Option ℕ) × Leads ts (room ∷ rooms) (r ∷ rooms)) where
  between : {opening closing : Literal} {ts : List Token} {x : A}
      → ((rooms : Open) → behind (s opening) rooms ≡ Some (room ∷ rooms)) → ((r : Option ℕ) (rooms : Open) → behind (s closing) (r ∷ rooms) ≡ Some rooms)
      → IsBetween opening closing I ts x → IsBalanced ts
  between {opening} {closing} opens closes (IsBetween.between {ts = ts} o c left h right) = λ rooms.
      let inside : (r : Option ℕ) × Leads ts (room ∷ rooms) (r ∷ rooms) = f _ _ h rooms in
      one (s opening) left (opens rooms) (then' {ts = ts} {us = c ∷ []} inside.1 (one (s closing) right (closes inside.0 rooms) nil))

module _ (operators : Table Op2) (I : Rel Expr) (f : (ts : List Token) (x : Expr) → I ts x → IsBalanced ts) (all : AllNeutral operators) where
  chain : {ts : List Token} {x : Expr} → IsChain operators I ts x → IsBalanced ts
  chain (IsChain.alone h) = f _ _ h
  chain (IsChain.more {ts = ts} {us = us} o op hs means h) = λ rooms.
      then' {ts = ts} {us = o ∷ us} (chain hs rooms) (token (meant operators o op all means) (f _ _ h rooms))

named : (ts : List Token) (x : Spanned) → IsNamed ts x → IsBalanced ts
named ts x (IsNamed.named n y is) = λ rooms. one (name y.name) is.0 refl nil

source : (ts : List Token) (x : SourceName) → IsSource ts x → IsBalanced ts
source ts x (IsSource.source n collection is iterator) = λ rooms. one (name collection.name) is.0 refl
    (optional (IsAfter "as" IsNamed) (λ us y. after IsNamed named (λ r. refl)) iterator rooms)

atom : {ts : List Token} {a : Atom} → IsAtom ts a → IsBalanced ts
unfolding AllNeutral
atom (IsAtom.one_word t a means) = λ rooms. token (meant atom_words t a
    (λ r. refl, (λ r. refl, (λ r. refl, (λ r. refl, (λ r. refl, (λ r. refl, (λ r. refl, (λ r. refl, (λ r. refl, tt))))))))) means) nil
atom (IsAtom.two_words u t a is means) = λ rooms. one (w "unsigned") is refl (token (meant unsigned_words t a (λ r. refl, (λ r. refl, tt)) means) nil)

-- ---- the productions

module _ (E : Level → Rel Expr) (f : (level : Level) (ts : List Token) (x : Expr) → E level ts x → IsBalanced ts) where
  parentheses : {ts : List Token} {x : Expr} → InParentheses E ts x → IsBalanced ts
  parentheses = between (E any) None (λ ts x h rooms. (None, f any ts x h (None ∷ rooms))) (λ rooms. refl) (λ r rooms. refl)

  bracketed : {A : Type 0} (I : Rel A) (g : (ts : List Token) (x : A) → I ts x → IsBalanced ts) {ts : List Token} {xs : List A}
      → IsBetween "[" "]" (IsCommaList I) ts xs → IsBalanced ts
  bracketed I g = between (IsCommaList I) None (λ ts x h rooms. (None, comma_list I g h rooms)) (λ rooms. refl) (λ r rooms. refl)

  braces : {ts : List Token} {xs : List Expr} → IsBetween "{" "}" (Exprs E) ts xs → length xs ≤ MAX_COMPONENTS → IsBalanced ts
  braces {xs} (IsBetween.between {ts = ts} o c left h right) most = λ rooms.
      let inside : Spent (E any) (f any) ts (length xs) 7 rooms = few (E any) (f any) 7 rooms h most in
      one (s "{") left refl (then' {ts = ts} {us = c ∷ []} inside.leads (one (s "}") right refl nil))

  edge : {ts : List Token} {x : Option Expr} → IsEdge E ts x → IsBalanced ts
  edge (IsEdge.own t is) = λ rooms. one (s "*") is refl nil
  edge (IsEdge.written h) = f any _ _ h

  axis : (ts : List Token) (x : Axis) → IsAxis E ts x → IsBalanced ts
  axis ts x (IsAxis.at h) = f any _ _ h
  axis ts x (IsAxis.trim {ts = los} {us = his} c lo colon hi) = λ rooms.
      then' {ts = los} {us = c ∷ his} (edge lo rooms) (one (s ":") colon refl (edge hi rooms))

  bounds : (ts : List Token) (x : Expr × Expr) → IsBounds E ts x → IsBalanced ts
  bounds ts x (IsBounds.bounds {ts = los} {us = his} c lo colon hi) = λ rooms.
      then' {ts = los} {us = c ∷ his} (f any _ _ lo rooms) (one (s ":") colon refl (f any _ _ hi rooms))

  domain : {ts : List Token} {x : DomainExpr} → IsDomain E ts x → IsBalanced ts
  domain (IsDomain.literal h) = bracketed (IsBounds E) bounds h
  domain (IsDomain.of_array k is h) = λ rooms. one (w "sdom") is refl (parentheses h rooms)

  arm : (ts : List Token) (x : Expr × Expr) → IsArm E ts x → IsBalanced ts
  arm ts x (IsArm.arm {ts = cs} {us = us} k t when c then'' h) = λ rooms.
      one (w "when") when refl (then' {ts = cs} {us = t ∷ us} (f any _ _ c rooms) (one (w "then") then'' refl (f any _ _ h rooms)))

  -- two expressions or the like, between which a comma stands
  pair : (ts us : List Token) (o c p : Token) → IsBalanced ts → IsBalanced us → IsSign "(" o → IsSign "," c → IsSign ")" p
      → IsBalanced (o ∷ ts ++ c ∷ us ++ p ∷ [])
  pair ts us o c p a b left comma right = λ rooms. then' {ts = o ∷ ts ++ c ∷ us} {us = p ∷ []}
      (then' {ts = o ∷ ts} {us = c ∷ us} (one (s "(") left refl (a (None ∷ rooms))) (one (s ",") comma refl (b (None ∷ rooms))))
      (one (s ")") right refl nil)

  primary : {ts : List Token} {x : Expr} → IsPrimary E ts x → IsBalanced ts
  unfolding AllNeutral
  primary (IsPrimary.number t z a is) = λ rooms. one (number z a) is refl nil
  primary (IsPrimary.truth t b means) = λ rooms. token (meant truths t b (λ r. refl, (λ r. refl, tt)) means) nil
  primary (IsPrimary.name t text is) = λ rooms. one (name text) is refl nil
  primary (IsPrimary.parentheses h) = parentheses h
  primary (IsPrimary.braces h most) = braces h most
  primary (IsPrimary.struct k is h most) = λ rooms. one (w "struct") is refl (braces h most rooms)
  primary (IsPrimary.choice {ts = ts} {us = us} k e n case arms other h end) = λ rooms. then' {ts = k ∷ ts ++ e ∷ us} {us = n ∷ []}
      (then' {ts = k ∷ ts} {us = e ∷ us} (one (w "case") case refl (row (IsArm E) arm arms rooms))
      (one (w "else") other refl (f any _ _ h rooms))) (one (w "end") end refl nil)
  primary (IsPrimary.call {ts = ts} {us = us} g o c p op means left a comma b right) = λ rooms.
      token (meant calls g op (λ r. refl, (λ r. refl, (λ r. refl, tt))) means) (pair ts us o c p (f any _ _ a) (f any _ _ b) left comma right rooms)
  primary (IsPrimary.abs g is h) = λ rooms. one (w "abs") is refl (parentheses h rooms)
  primary (IsPrimary.folded g fold means h) = λ rooms. token (meant cells_folds g fold
      (λ r. refl, (λ r. refl, (λ r. refl, (λ r. refl, (λ r. refl, (λ r. refl, tt)))))) means) (parentheses h rooms)
  primary (IsPrimary.shift {ts = ts} {us = us} g o c p is left a comma b right) = λ rooms.
      one (w "shift") is refl (pair ts us o c p (f any _ _ a) (bracketed (E any) (f any) b) left comma right rooms)
  primary (IsPrimary.extend {ts = ts} {us = us} g o c p is left a comma b right) = λ rooms.
      one (w "extend") is refl (pair ts us o c p (f any _ _ a) (domain b) left comma right rooms)
  primary (IsPrimary.sdom g is h) = λ rooms. one (w "sdom") is refl (parentheses h rooms)
  primary (IsPrimary.oid g is h) = λ rooms. one (w "oid") is refl
      (between IsNamed None (λ ts x n rooms. (None, named ts x n (None ∷ rooms))) (λ rooms. refl) (λ r rooms. refl) h rooms)

  part : {ts : List Token} {x : Expr} → IsPart E ts x → IsBalanced ts
  part (IsPart.alone h) = primary h
  part (IsPart.indexed {ts = ts} {us = us} h i) = λ rooms. then' {ts = ts} {us = us} (part h rooms) (bracketed (IsAxis E) axis i rooms)
  part (IsPart.named {ts = ts} d n text h dot is) = λ rooms.
      then' {ts = ts} {us = d ∷ n ∷ []} (part h rooms) (one (s ".") dot refl (one (name text) is refl nil))
  part (IsPart.numbered {ts = ts} d n z h dot is) = λ rooms.
      then' {ts = ts} {us = d ∷ n ∷ []} (part h rooms) (one (s ".") dot refl (one (number z Wide) is refl nil))

  signed' : (ts : List Token) (x : Expr) → IsSigned E ts x → IsBalanced ts
  signed' ts x (IsSigned.minus k is h) = λ rooms. one (s "-") is refl (f signed _ _ h rooms)
  signed' ts x (IsSigned.cast {ts = ws} {us = us} a h) = λ rooms. then' {ts = ws} {us = us}
      (between IsAtom None (λ vs y b rooms. (None, atom b (None ∷ rooms))) (λ rooms. refl) (λ r rooms. refl) a rooms) (f signed _ _ h rooms)
  signed' ts x (IsSigned.part h) = part h

  sum : {ts : List Token} {x : Expr} → IsSum E ts x → IsBalanced ts
  unfolding AllNeutral
  sum = chain sums (IsProduct E) (λ ts x. chain products (IsSigned E) signed' (λ r. refl, tt)) (λ r. refl, (λ r. refl, tt))

  compared : {ts : List Token} {x : Expr} → IsCompared E ts x → IsBalanced ts
  unfolding AllNeutral
  compared (IsCompared.alone h) = sum h
  compared (IsCompared.compared {ts = ts} {us = us} o op a means b) = λ rooms. then' {ts = ts} {us = o ∷ us} (sum a rooms)
      (token (meant comparisons o op (λ r. refl, (λ r. refl, (λ r. refl, (λ r. refl, (λ r. refl, (λ r. refl, tt)))))) means) (sum b rooms))

  negated : (ts : List Token) (x : Expr) → IsNegated E ts x → IsBalanced ts
  negated ts x (IsNegated.negated k is h) = λ rooms. one (w "not") is refl (f negation _ _ h rooms)
  negated ts x (IsNegated.plain h) = compared h

  overlaid : {ts : List Token} {x : Expr} → IsOverlaid E ts x → IsBalanced ts
  unfolding AllNeutral
  overlaid = chain overlays (IsEither E) (λ ts x. chain eithers (IsBoth E) (λ us y. chain boths (IsNegated E) negated (λ r. refl, tt))
      (λ r. refl, (λ r. refl, tt))) (λ r. refl, tt)

  condition : {ts : List Token} {x : Option Expr} → IsOptional (IsAfter "where" (E any)) ts x → IsBalanced ts
  condition = optional (IsAfter "where" (E any)) (λ us y. after (E any) (f any) (λ r. refl))

  whole : {ts : List Token} {x : Expr} → IsWhole E ts x → IsBalanced ts
  unfolding AllNeutral
  whole (IsWhole.marray {ts = ts} {us = us} k n i v x marray is in' d values h) = λ rooms.
      one (w "marray") marray refl (one (name x.name) is.0 refl (one (w "in") in' refl (then' {ts = ts} {us = v ∷ us} (domain d rooms)
      (one (w "values") values refl (f any _ _ h rooms)))))
  whole (IsWhole.condense {ts = ts} {us = us} {vs = vs} k g o n i u op x condense means over is in' d c using h) = λ rooms.
      one (w "condense") condense refl (token (meant fold_operators g op
      (λ r. refl, (λ r. refl, (λ r. refl, (λ r. refl, (λ r. refl, (λ r. refl, tt)))))) means)
      (one (w "over") over refl (one (name x.name) is.0 refl (one (w "in") in' refl (then' {ts = ts ++ us} {us = u ∷ vs}
      (then' {ts = ts} {us = us} (domain d rooms) (condition c rooms)) (one (w "using") using refl (f any _ _ h rooms)))))))
  whole (IsWhole.concat {ts = ts} {us = us} k a n z concat h hs along is) = λ rooms. one (w "concat") concat refl
      (then' {ts = ts ++ us} {us = a ∷ n ∷ []} (then' {ts = ts} {us = us} (f any _ _ h rooms)
      (row (IsAfter "with" (E any)) (λ vs y. after (E any) (f any) (λ r. refl)) hs rooms))
      (one (w "along") along refl (one (number z Wide) is refl nil)))
  whole (IsWhole.overlaid h) = overlaid h

  at_level : (level : Level) (ts : List Token) (x : Expr) → IsLevel E level ts x → IsBalanced ts
  at_level any ts x h = whole h
  at_level negation ts x h = negated ts x h
  at_level signed ts x h = signed' ts x h

-- expressions are balanced
nested-balanced : (n : ℕ) (level : Level) (ts : List Token) (x : Expr) → Nested n level ts x → IsBalanced ts
nested-balanced zero level ts x h = elim h [ ]
nested-balanced (suc n) level ts x h = at_level (Nested n) (nested-balanced n) level ts x h

pub IsAt-balanced : (level : Level) (ts : List Token) (x : Expr) → IsAt level ts x → IsBalanced ts
IsAt-balanced level ts x (n, h) = nested-balanced n level ts x h

-- what is open around a statement, so that "from" and commas may stand in it outside all brackets
abbrev pub outside : Open
outside = None ∷ []

statement-leads : (ts : List Token) (form : StatementForm) → IsStatement ts form → Leads ts outside outside
statement-leads ts form (IsForm.select k is h) = one (w "select") is refl (IsAt-balanced any _ _ h outside)
statement-leads ts form (IsForm.select_from {ts = xs} {us = us} {vs = vs} k f is h from sources cond) =
    one (w "select") is refl (then' {ts = xs ++ f ∷ us} {us = vs} (then' {ts = xs} {us = f ∷ us} (IsAt-balanced any _ _ h outside)
    (one (w "from") from refl (comma_list IsSource source sources []))) (condition IsAt IsAt-balanced cond outside))
statement-leads ts form (IsForm.insert k i n v x is into named values h) = one (w "insert") is refl (one (w "into") into refl
    (one (name x.name) named.0 refl (one (w "values") values refl (IsAt-balanced any _ _ h outside))))
statement-leads ts form (IsForm.delete {ts = xs} {us = us} k f is from of cond) = one (w "delete") is refl (one (w "from") from refl
    (then' {ts = xs} {us = us} (source _ _ of outside) (condition IsAt IsAt-balanced cond outside)))
statement-leads ts form (IsForm.update {ts = xs} {us = us} {vs = vs} {ws = ws} k s' n a x is of set named axes assign h cond) =
    one (w "update") is refl (then' {ts = xs ++ s' ∷ n ∷ us ++ a ∷ vs} {us = ws} (then' {ts = xs ++ s' ∷ n ∷ us} {us = a ∷ vs}
    (then' {ts = xs} {us = s' ∷ n ∷ us} (source _ _ of outside) (one (w "set") set refl (one (name x.name) named.0 refl
    (optional (IsIndex IsAt) (λ ts y. bracketed IsAt IsAt-balanced (IsAxis IsAt) (axis IsAt IsAt-balanced)) axes outside))))
    (one (w "assign") assign refl (IsAt-balanced any _ _ h outside))) (condition IsAt IsAt-balanced cond outside))
statement-leads ts form (IsForm.create k c n t x y is collection named type) = one (w "create") is refl (one (w "collection") collection refl
    (one (name x.name) named.0 refl (one (name y.name) type.0 refl nil)))
statement-leads ts form (IsForm.drop k c n x is collection named) = one (w "drop") is refl (one (w "collection") collection refl
    (one (name x.name) named.0 refl nil))
statement-leads ts form (IsForm.begin k is) = one (w "begin") is refl nil
statement-leads ts form (IsForm.begin_retry k r n times is retry plain one' most) =
    one (w "begin") is refl (one (w "retry") retry refl (one (number (pos times) Wide) plain refl nil))
statement-leads ts form (IsForm.commit k is) = one (w "commit") is refl nil
statement-leads ts form (IsForm.commit_anyway k a is anyway) = one (w "commit") is refl (one (w "anyway") anyway refl nil)
statement-leads ts form (IsForm.abort k is) = one (w "abort") is refl nil

-- statements are balanced
pub IsStatement-balanced : (ts : List Token) (form : StatementForm) → IsStatement ts form → behind_all (Some outside) ts ≡ Some outside
IsStatement-balanced ts form h = (statement-leads ts form h).is
