-- The numbers of a statement are those of its tokens, and so lie in the ranges of their atoms.
use Prim.Native.String.{String as Literal}
use Rattle.std.specs.Prelude.{◌≡◌, ℕ, zero, suc, ◌+◌, ◌-◌, Bool, true, false, not, ◌&&◌, if◌then◌else◌, pos, IsTrue, List, [], ◌∷◌, ◌++◌, length, drop, map, find, take_while, Option, Some, None, codes, Ok}
use Rattle.std.specs.List.{list_all}
use Rattle.std.proofs.Common.{refl, sym, ap, subst, ◌∙◌}
use Rattle.std.proofs.lemmas.Bool.{and_parts, and_from, not-false}
use Rattle.std.proofs.lemmas.List.Folds.{list_all-append, list_all-map}
use Rattle.ras_cells.specs.declared.numbers.Op2.{Op2}
use Rattle.ras_cells.specs.declared.atom.Atom.{Atom}
use Rattle.ras_cells.specs.Atoms.{is_in_range}
use Rattle.ras_syntax.specs.Literals as fits
use Rattle.ras_syntax.specs.Literals.{all_fit, pairs_fit, numbers_fit, axis_numbers_fit, condition_numbers_fit, target_numbers_fit, statement_numbers_fit}
use Rattle.ras_syntax.specs.declared.faults.SyntaxFault.TheVariants.{Unexpected, FloatRefused}
use Rattle.ras_syntax.specs.declared.expr.Expr.{Expr, fold-roll-Expr}
use Rattle.ras_syntax.specs.declared.expr.ExprForm.{ExprForm, fold-ExprForm, roll-ExprForm, map-ExprForm, fold-roll-ExprForm}
use Rattle.ras_syntax.specs.declared.expr.ExprForm.TheVariants as forms
use Rattle.ras_syntax.specs.declared.expr.Axis.{Axis, roll-Axis, map-Axis, fold-roll-Axis}
use Rattle.ras_syntax.specs.declared.expr.Axis.TheVariants as axes
use Rattle.ras_syntax.specs.declared.expr.DomainExpr.{DomainExpr, fold-DomainExpr, roll-DomainExpr, map-DomainExpr, fold-roll-DomainExpr}
use Rattle.ras_syntax.specs.declared.expr.DomainExpr.TheVariants as domains
use Rattle.ras_syntax.specs.declared.expr.Axis.TheOpen.{Axis-F, DomainExpr-F, ExprForm-F}
use Rattle.ras_syntax.specs.declared.expr.FoldOp.{FoldOp}
use Rattle.ras_syntax.specs.declared.expr.Part.TheVariants as components
use Rattle.ras_syntax.specs.declared.span.Spanned.{Spanned}
use Rattle.ras_cells.specs.declared.numbers.Op1.TheVariants as one
use Rattle.ras_syntax.specs.declared.statement.Statement.{Statement}
use Rattle.ras_syntax.specs.declared.statement.StatementForm.{StatementForm}
use Rattle.spec_grammar.specs.Tokens.{Text, first_is, is_digit, begins_name, continues_name, begins_with, is_one_of, in_small_letters, reserved_words, float_names, TokenKind, Token, Found, nothing, good, bad, signs, space_length, after_space, name_at, suffix_of, value_of, is_float_mark, number_with, token_at, Lexed, and_then, lexed_from}
use Rattle.spec_grammar.specs.Grammar.{span_of, tree, Rel, Table, IsChain, IsRow, IsCommaList, IsBetween, IsAfter, IsOptional, Level, any, negation, signed, IsEdge, IsAxis, IsIndex, IsBounds, IsDomain, IsArm, InParentheses, Exprs, IsPrimary, IsPart, IsSigned, IsProduct, IsSum, IsCompared, IsNegated, IsBoth, IsEither, IsOverlaid, IsWhole, IsLevel, IsForm, Nested, IsAt, overlays, eithers, boths, sums, products}
use Rattle.spec_grammar.specs.Verdict.{IsVerdict}
use Rattle.law_lists.proofs.Choices.{either_way}

-- ---- tokens

abbrev kind_fits : TokenKind → Bool
kind_fits (TokenKind.number z atom) = is_in_range atom z
kind_fits other = true

abbrev tokens_fit : List Token → Bool
tokens_fit = list_all (λ t. kind_fits t.kind)

parts_fit : (ts us : List Token) → tokens_fit (ts ++ us) ≡ true → (tokens_fit ts ≡ true) × (tokens_fit us ≡ true)
parts_fit ts us fit = and_parts (tokens_fit ts) (tokens_fit us) (sym (list_all-append (λ t. kind_fits t.kind) ts us) ∙ fit)

rest_fits : (t : Token) (ts : List Token) → tokens_fit (t ∷ ts) ≡ true → tokens_fit ts ≡ true
rest_fits t ts fit = (and_parts (kind_fits t.kind) (tokens_fit ts) fit).1

-- two parts with a token between them
apart_fit : (ts : List Token) (t : Token) (us : List Token) → tokens_fit (ts ++ t ∷ us) ≡ true → (tokens_fit ts ≡ true) × (tokens_fit us ≡ true)
apart_fit ts t us fit = let both = parts_fit ts (t ∷ us) fit in (both.0, rest_fits t us both.1)

-- ---- what a text's tokens are

-- a token that was found fits
abbrev FoundFits : Found → Type 0
FoundFits nothing = Unit {0}
FoundFits (good t) = kind_fits t.kind ≡ true
FoundFits (bad fault) = Unit {0}

name_at-fits : (place : ℕ) (text rest : Text) → FoundFits (name_at place text rest)
name_at-fits place text rest =
    either_way FoundFits (is_one_of reserved_words (in_small_letters text)) _ _ (λ e. refl)
    (λ e. either_way FoundFits (is_one_of float_names text) _ _ (λ e. tt)
    (λ e. either_way FoundFits (begins_with (codes "(") (after_space rest)) _ _ (λ e. tt) (λ e. refl)))

number_with-fits : (place : ℕ) (digits : Text) (suffix : Text × Atom) (rest : Text) → FoundFits (number_with place digits suffix rest)
number_with-fits place digits suffix rest =
    either_way FoundFits (not (is_in_range suffix.1 (pos (value_of digits)))) _ _ (λ e. tt)
    (λ within. either_way FoundFits (is_float_mark rest) _ _ (λ e. tt)
    (λ e. either_way FoundFits (first_is begins_name rest) _ _ (λ e. tt) (λ e. not-false _ within)))

sign_found : (place : ℕ) (text : Text) (found : Option Text) → FoundFits (elim found as (λ x. Found) [
  | Some s ↦ good (record { kind = TokenKind.sign s; from = place; to = place + length s })
  | None ↦ if begins_with (codes "/") text then bad (FloatRefused place) else bad (Unexpected place)
])
sign_found place text (Some s) = refl
sign_found place text None = either_way FoundFits (begins_with (codes "/") text) _ _ (λ e. tt) (λ e. tt)

token_at-fits : (place : ℕ) (text : Text) → FoundFits (token_at place text)
token_at-fits place [] = tt
token_at-fits place (b ∷ bytes) =
    either_way FoundFits (begins_name b) _ _
    (λ e. name_at-fits place (take_while continues_name (b ∷ bytes)) (drop (length (take_while continues_name (b ∷ bytes))) (b ∷ bytes)))
    (λ e. either_way FoundFits (is_digit b) _ _
    (λ e. let rest : Text = drop (length (take_while is_digit (b ∷ bytes))) (b ∷ bytes) in
    number_with-fits place (take_while is_digit (b ∷ bytes)) (suffix_of rest) (drop (length (suffix_of rest).0) rest))
    (λ e. sign_found place (b ∷ bytes) (find (λ s. begins_with s (b ∷ bytes)) signs)))

lexed_from-fits : (most place : ℕ) (text : Text) → tokens_fit (lexed_from most place text).tokens ≡ true
lexed_from-fits zero place text = refl
lexed_from-fits (suc most) place text =
    go (token_at (place + space_length false text) (after_space text)) (token_at-fits (place + space_length false text) (after_space text))
    (λ p t. lexed_from-fits most p t)
  where
    go : (found : Found) → FoundFits found → ((p : ℕ) (t : Text) → tokens_fit (lexed_from most p t).tokens ≡ true)
        → tokens_fit (elim found as (λ x. Lexed) [
          | nothing ↦ record { tokens = []; fault = None }
          | good t ↦ and_then t (lexed_from most t.to (drop (t.to - place) text))
          | bad fault ↦ record { tokens = []; fault = Some fault }
        ]).tokens ≡ true
    go nothing fit rest = refl
    go (good t) fit rest = and_from (kind_fits t.kind) _ fit (rest t.to (drop (t.to - place) text))
    go (bad fault) fit rest = refl

-- ---- what a tree's numbers are

abbrev form_fits : ExprForm → Bool
form_fits = fold-ExprForm Bool Bool Bool Bool fits.axis_fits fits.domain_fits fits.form_fits fits.expr_fits

abbrev domain_fits : DomainExpr → Bool
domain_fits = fold-DomainExpr Bool Bool Bool Bool fits.axis_fits fits.domain_fits fits.form_fits fits.expr_fits

tree_fits : (ts : List Token) (f : ExprForm) (layer : ExprForm-F Axis DomainExpr ExprForm Expr) → roll-ExprForm layer ≡ f
    → fits.form_fits (map-ExprForm Axis DomainExpr ExprForm Expr Bool Bool Bool Bool axis_numbers_fit domain_fits form_fits numbers_fit layer) ≡ true
    → numbers_fit (tree ts f) ≡ true
tree_fits ts f layer rolls fit =
    fold-roll-Expr Bool Bool Bool Bool fits.axis_fits fits.domain_fits fits.form_fits fits.expr_fits (record { span = span_of ts; form = f })
    ∙ ap form_fits (sym rolls) ∙ fold-roll-ExprForm Bool Bool Bool Bool fits.axis_fits fits.domain_fits fits.form_fits fits.expr_fits layer ∙ fit

axis_fits : (a : Axis) (layer : Axis-F Axis DomainExpr ExprForm Expr) → roll-Axis layer ≡ a
    → fits.axis_fits (map-Axis Axis DomainExpr ExprForm Expr Bool Bool Bool Bool axis_numbers_fit domain_fits form_fits numbers_fit layer) ≡ true
    → axis_numbers_fit a ≡ true
axis_fits a layer rolls fit = ap axis_numbers_fit (sym rolls) ∙ fold-roll-Axis Bool Bool Bool Bool fits.axis_fits fits.domain_fits fits.form_fits fits.expr_fits layer ∙ fit

domain_fits_by : (d : DomainExpr) (layer : DomainExpr-F Axis DomainExpr ExprForm Expr) → roll-DomainExpr layer ≡ d
    → fits.domain_fits (map-DomainExpr Axis DomainExpr ExprForm Expr Bool Bool Bool Bool axis_numbers_fit domain_fits form_fits numbers_fit layer) ≡ true
    → domain_fits d ≡ true
domain_fits_by d layer rolls fit = ap domain_fits (sym rolls) ∙ fold-roll-DomainExpr Bool Bool Bool Bool fits.axis_fits fits.domain_fits fits.form_fits fits.expr_fits layer ∙ fit

each_fits : {A : Type 0} (p : A → Bool) (xs : List A) → list_all p xs ≡ true → all_fit (map p xs) ≡ true
each_fits p xs fit = list_all-map (λ b. b) p xs ∙ fit

abbrev pair_fits : Expr × Expr → Bool
pair_fits p = numbers_fit p.0 && numbers_fit p.1

each_pair_fits : (ps : List (Expr × Expr)) → list_all pair_fits ps ≡ true → pairs_fit (map (λ (p : Expr × Expr). (numbers_fit p.0, numbers_fit p.1)) ps) ≡ true
each_pair_fits ps fit = list_all-map (λ (b : Bool × Bool). b.0 && b.1) (λ (p : Expr × Expr). (numbers_fit p.0, numbers_fit p.1)) ps ∙ fit

condense_fits : (ts : List Token) (op : FoldOp) (x : Spanned) (d : DomainExpr) (c : Option Expr) (e : Expr) → domain_fits d ≡ true → condition_numbers_fit c ≡ true → numbers_fit e ≡ true
    → numbers_fit (tree ts (forms.Condense op x d c e)) ≡ true
condense_fits ts op x d None e domain none body =
    tree_fits ts (forms.Condense op x d None e) (ExprForm-F.Condense op x d None e) (forms.rolls-Condense op x d None e) (and_from (domain_fits d) (numbers_fit e) domain body)
condense_fits ts op x d (Some c) e domain test body =
    tree_fits ts (forms.Condense op x d (Some c) e) (ExprForm-F.Condense op x d (Some c) e) (forms.rolls-Condense op x d (Some c) e)
    (and_from (domain_fits d) (numbers_fit c && numbers_fit e) domain (and_from (numbers_fit c) (numbers_fit e) test body))

-- ---- lists, brackets and options

module _ {A : Type 0} (I : Rel A) (p : A → Bool) (f : (ts : List Token) (x : A) → I ts x → tokens_fit ts ≡ true → p x ≡ true) where
  one_fits : (ts : List Token) (x : A) → I ts x → tokens_fit ts ≡ true → list_all p (x ∷ []) ≡ true
  one_fits ts x h fit = and_from (p x) true (f ts x h fit) refl

  row : {ts : List Token} {xs : List A} → IsRow I ts xs → tokens_fit ts ≡ true → list_all p xs ≡ true
  row (IsRow.first h) fit = one_fits _ _ h fit
  row (IsRow.more {ts = us} {us = vs} {xs = xs} {x = x} hs h) fit =
      let both = parts_fit us vs fit in
      list_all-append p xs (x ∷ []) ∙ and_from (list_all p xs) (list_all p (x ∷ [])) (row hs both.0) (one_fits vs x h both.1)

  comma_list : (ts : List Token) (xs : List A) → IsCommaList I ts xs → tokens_fit ts ≡ true → list_all p xs ≡ true
  comma_list ts xs (IsCommaList.first h) fit = one_fits _ _ h fit
  comma_list ts xs' (IsCommaList.more {ts = us} {us = vs} {xs = xs} {x = x} c hs comma h) fit =
      let both = apart_fit us c vs fit in
      list_all-append p xs (x ∷ []) ∙ and_from (list_all p xs) (list_all p (x ∷ [])) (comma_list us xs hs both.0) (one_fits vs x h both.1)

  between : {opening closing : Literal} {ts : List Token} {x : A} → IsBetween opening closing I ts x → tokens_fit ts ≡ true → p x ≡ true
  between (IsBetween.between {ts = us} {x = x} o c left h right) fit = f us x h (apart_fit us c [] (rest_fits o (us ++ c ∷ []) fit)).0

  after : {keyword : Literal} (ts : List Token) (x : A) → IsAfter keyword I ts x → tokens_fit ts ≡ true → p x ≡ true
  after ts x' (IsAfter.after {ts = us} {x = x} k is h) fit = f us x h (rest_fits k us fit)

module _ (operators : Table Op2) (I : Rel Expr) (f : (ts : List Token) (x : Expr) → I ts x → tokens_fit ts ≡ true → numbers_fit x ≡ true) where
  chain : (ts : List Token) (x : Expr) → IsChain operators I ts x → tokens_fit ts ≡ true → numbers_fit x ≡ true
  chain ts x (IsChain.alone h) fit = f _ _ h fit
  chain ts x' (IsChain.more {ts = us} {us = vs} {x = x} {y = y} o op hs means h) fit =
      let both = apart_fit us o vs fit in
      tree_fits (us ++ o ∷ vs) (forms.Binary op x y) (ExprForm-F.Binary op x y) (forms.rolls-Binary op x y)
      (and_from (numbers_fit x) (numbers_fit y) (chain us x hs both.0) (f vs y h both.1))

-- ---- the productions

module _ (E : Level → Rel Expr) (f : (level : Level) (ts : List Token) (x : Expr) → E level ts x → tokens_fit ts ≡ true → numbers_fit x ≡ true) where
  edge : {ts : List Token} {x : Option Expr} → IsEdge E ts x → tokens_fit ts ≡ true → condition_numbers_fit x ≡ true
  edge (IsEdge.own t is) fit = refl
  edge (IsEdge.written h) fit = f any _ _ h fit

  -- bounds of a trim
  trim_fits : (a b : Option Expr) → condition_numbers_fit a ≡ true → condition_numbers_fit b ≡ true → axis_numbers_fit (axes.Trim a b) ≡ true
  trim_fits None None fa fb = axis_fits (axes.Trim None None) (Axis-F.Trim None None) (axes.rolls-Trim None None) refl
  trim_fits None (Some b) fa fb = axis_fits (axes.Trim None (Some b)) (Axis-F.Trim None (Some b)) (axes.rolls-Trim None (Some b)) fb
  trim_fits (Some a) None fa fb = axis_fits (axes.Trim (Some a) None) (Axis-F.Trim (Some a) None) (axes.rolls-Trim (Some a) None) (and_from (numbers_fit a) true fa refl)
  trim_fits (Some a) (Some b) fa fb =
      axis_fits (axes.Trim (Some a) (Some b)) (Axis-F.Trim (Some a) (Some b)) (axes.rolls-Trim (Some a) (Some b)) (and_from (numbers_fit a) (numbers_fit b) fa fb)

  axis : (ts : List Token) (x : Axis) → IsAxis E ts x → tokens_fit ts ≡ true → axis_numbers_fit x ≡ true
  axis ts a (IsAxis.at {x = x} h) fit = axis_fits (axes.At x) (Axis-F.At x) (axes.rolls-At x) (f any _ _ h fit)
  axis ts a (IsAxis.trim {ts = us} {us = vs} {lo = lo} {hi = hi} c l colon h) fit =
      let both = apart_fit us c vs fit in trim_fits lo hi (edge l both.0) (edge h both.1)

  index : {ts : List Token} {xs : List Axis} → IsIndex E ts xs → tokens_fit ts ≡ true → list_all axis_numbers_fit xs ≡ true
  index = between (IsCommaList (IsAxis E)) (list_all axis_numbers_fit) (comma_list (IsAxis E) axis_numbers_fit axis)

  bounds : (ts : List Token) (x : Expr × Expr) → IsBounds E ts x → tokens_fit ts ≡ true → pair_fits x ≡ true
  bounds ts p (IsBounds.bounds {ts = us} {us = vs} {lo = lo} {hi = hi} c l colon h) fit =
      let both = apart_fit us c vs fit in and_from (numbers_fit lo) (numbers_fit hi) (f any us lo l both.0) (f any vs hi h both.1)

  parentheses : {ts : List Token} {x : Expr} → InParentheses E ts x → tokens_fit ts ≡ true → numbers_fit x ≡ true
  parentheses = between (E any) numbers_fit (f any)

  exprs : (ts : List Token) (xs : List Expr) → Exprs E ts xs → tokens_fit ts ≡ true → list_all numbers_fit xs ≡ true
  exprs = comma_list (E any) numbers_fit (f any)

  bracketed : {opening closing : Literal} {ts : List Token} {xs : List Expr} → IsBetween opening closing (Exprs E) ts xs → tokens_fit ts ≡ true → list_all numbers_fit xs ≡ true
  bracketed = between (Exprs E) (list_all numbers_fit) exprs

  domain : {ts : List Token} {x : DomainExpr} → IsDomain E ts x → tokens_fit ts ≡ true → domain_fits x ≡ true
  domain (IsDomain.literal {pairs = ps} h) fit =
      domain_fits_by (domains.Literal ps) (DomainExpr-F.Literal ps) (domains.rolls-Literal ps)
      (each_pair_fits ps (between (IsCommaList (IsBounds E)) (list_all pair_fits) (comma_list (IsBounds E) pair_fits bounds) h fit))
  domain (IsDomain.of_array {ts = us} {x = x} k is h) fit =
      domain_fits_by (domains.Sdom (tree (k ∷ us) (forms.Sdom x))) (DomainExpr-F.«DomainExpr::Sdom» (tree (k ∷ us) (forms.Sdom x))) (domains.rolls-Sdom (tree (k ∷ us) (forms.Sdom x)))
      (tree_fits (k ∷ us) (forms.Sdom x) (ExprForm-F.«ExprForm::Sdom» x) (forms.rolls-Sdom x) (parentheses h (rest_fits k us fit)))

  arm : (ts : List Token) (x : Expr × Expr) → IsArm E ts x → tokens_fit ts ≡ true → pair_fits x ≡ true
  arm ts p (IsArm.arm {ts = us} {us = vs} {c = c} {x = x} k t when a then' b) fit =
      let both = apart_fit us t vs (rest_fits k (us ++ t ∷ vs) fit) in
      and_from (numbers_fit c) (numbers_fit x) (f any us c a both.0) (f any vs x b both.1)

  -- a call with two parts, behind its word
  inside : (o c p : Token) (us vs : List Token) → tokens_fit (o ∷ us ++ c ∷ vs ++ p ∷ []) ≡ true → (tokens_fit us ≡ true) × (tokens_fit vs ≡ true)
  inside o c p us vs fit =
      apart_fit us c vs (parts_fit (us ++ c ∷ vs) (p ∷ []) (rest_fits o (us ++ c ∷ vs ++ p ∷ []) fit)).0

  primary : {ts : List Token} {x : Expr} → IsPrimary E ts x → tokens_fit ts ≡ true → numbers_fit x ≡ true
  primary (IsPrimary.number t z a is) fit =
      tree_fits (t ∷ []) (forms.Number z a) (ExprForm-F.Number z a) (forms.rolls-Number z a)
      (subst (λ k. kind_fits k ≡ true) is (and_parts (kind_fits t.kind) true fit).0)
  primary (IsPrimary.truth t b is) fit = tree_fits (t ∷ []) (forms.Bool b) (ExprForm-F.Bool b) (forms.rolls-Bool b) refl
  primary (IsPrimary.name t text is) fit = tree_fits (t ∷ []) (forms.Name text) (ExprForm-F.Name text) (forms.rolls-Name text) refl
  primary (IsPrimary.parentheses h) fit = parentheses h fit
  primary (IsPrimary.braces {ts = us} {xs = xs} h few) fit =
      tree_fits us (forms.Build xs) (ExprForm-F.Build xs) (forms.rolls-Build xs) (each_fits numbers_fit xs (bracketed h fit))
  primary (IsPrimary.struct {ts = us} {xs = xs} k is h few) fit =
      tree_fits (k ∷ us) (forms.Build xs) (ExprForm-F.Build xs) (forms.rolls-Build xs) (each_fits numbers_fit xs (bracketed h (rest_fits k us fit)))
  primary (IsPrimary.choice {ts = us} {us = vs} {arms = arms} {x = x} k e n case each other h end) fit =
      let both = apart_fit us e vs (parts_fit (us ++ e ∷ vs) (n ∷ []) (rest_fits k (us ++ e ∷ vs ++ n ∷ []) fit)).0 in
      tree_fits (k ∷ us ++ e ∷ vs ++ n ∷ []) (forms.Case arms x) (ExprForm-F.Case arms x) (forms.rolls-Case arms x)
      (and_from _ (numbers_fit x) (each_pair_fits arms (row (IsArm E) pair_fits arm each both.0)) (f any vs x h both.1))
  primary (IsPrimary.call {ts = us} {us = vs} {x = x} {y = y} g o c p op means left a comma b right) fit =
      let both = inside o c p us vs (rest_fits g (o ∷ us ++ c ∷ vs ++ p ∷ []) fit) in
      tree_fits (g ∷ o ∷ us ++ c ∷ vs ++ p ∷ []) (forms.Binary op x y) (ExprForm-F.Binary op x y) (forms.rolls-Binary op x y)
      (and_from (numbers_fit x) (numbers_fit y) (f any us x a both.0) (f any vs y b both.1))
  primary (IsPrimary.abs {ts = us} {x = x} g is h) fit =
      tree_fits (g ∷ us) (forms.Unary one.Abs x) (ExprForm-F.Unary one.Abs x) (forms.rolls-Unary one.Abs x) (parentheses h (rest_fits g us fit))
  primary (IsPrimary.folded {ts = us} {x = x} g fold means h) fit =
      tree_fits (g ∷ us) (forms.Cells fold x) (ExprForm-F.Cells fold x) (forms.rolls-Cells fold x) (parentheses h (rest_fits g us fit))
  primary (IsPrimary.shift {ts = us} {us = vs} {x = x} {offsets = offsets} g o c p is left a comma b right) fit =
      let both = inside o c p us vs (rest_fits g (o ∷ us ++ c ∷ vs ++ p ∷ []) fit) in
      tree_fits (g ∷ o ∷ us ++ c ∷ vs ++ p ∷ []) (forms.Shift x offsets) (ExprForm-F.Shift x offsets) (forms.rolls-Shift x offsets)
      (and_from (numbers_fit x) _ (f any us x a both.0) (each_fits numbers_fit offsets (bracketed b both.1)))
  primary (IsPrimary.extend {ts = us} {us = vs} {x = x} {d = d} g o c p is left a comma b right) fit =
      let both = inside o c p us vs (rest_fits g (o ∷ us ++ c ∷ vs ++ p ∷ []) fit) in
      tree_fits (g ∷ o ∷ us ++ c ∷ vs ++ p ∷ []) (forms.Extend x d) (ExprForm-F.Extend x d) (forms.rolls-Extend x d)
      (and_from (numbers_fit x) (domain_fits d) (f any us x a both.0) (domain b both.1))
  primary (IsPrimary.sdom {ts = us} {x = x} g is h) fit =
      tree_fits (g ∷ us) (forms.Sdom x) (ExprForm-F.«ExprForm::Sdom» x) (forms.rolls-Sdom x) (parentheses h (rest_fits g us fit))
  primary (IsPrimary.oid {ts = us} {a = a} g is h) fit = tree_fits (g ∷ us) (forms.Oid a) (ExprForm-F.Oid a) (forms.rolls-Oid a) refl

  part : {ts : List Token} {x : Expr} → IsPart E ts x → tokens_fit ts ≡ true → numbers_fit x ≡ true
  part (IsPart.alone h) fit = primary h fit
  part (IsPart.indexed {ts = us} {us = vs} {x = x} {axes = as'} h i) fit =
      let both = parts_fit us vs fit in
      tree_fits (us ++ vs) (forms.Index x as') (ExprForm-F.Index x as') (forms.rolls-Index x as')
      (and_from (numbers_fit x) _ (part h both.0) (each_fits axis_numbers_fit as' (index i both.1)))
  part (IsPart.named {ts = us} {x = x} d n text h dot is) fit =
      tree_fits (us ++ d ∷ n ∷ []) (forms.Part x (components.Named text)) (ExprForm-F.Part x (components.Named text)) (forms.rolls-Part x (components.Named text))
      (part h (parts_fit us (d ∷ n ∷ []) fit).0)
  part (IsPart.numbered {ts = us} {x = x} d n z h dot is) fit =
      tree_fits (us ++ d ∷ n ∷ []) (forms.Part x (components.Numbered z)) (ExprForm-F.Part x (components.Numbered z)) (forms.rolls-Part x (components.Numbered z))
      (part h (parts_fit us (d ∷ n ∷ []) fit).0)

  signed' : (ts : List Token) (x : Expr) → IsSigned E ts x → tokens_fit ts ≡ true → numbers_fit x ≡ true
  signed' ts y (IsSigned.minus {ts = us} {x = x} m is h) fit =
      tree_fits (m ∷ us) (forms.Unary one.Neg x) (ExprForm-F.Unary one.Neg x) (forms.rolls-Unary one.Neg x) (f signed us x h (rest_fits m us fit))
  signed' ts y (IsSigned.cast {ts = us} {us = vs} {a = a} {x = x} to h) fit =
      tree_fits (us ++ vs) (forms.Cast a x) (ExprForm-F.Cast a x) (forms.rolls-Cast a x) (f signed vs x h (parts_fit us vs fit).1)
  signed' ts y (IsSigned.part h) fit = part h fit

  product : (ts : List Token) (x : Expr) → IsProduct E ts x → tokens_fit ts ≡ true → numbers_fit x ≡ true
  product = chain products (IsSigned E) signed'

  sum : (ts : List Token) (x : Expr) → IsSum E ts x → tokens_fit ts ≡ true → numbers_fit x ≡ true
  sum = chain sums (IsProduct E) product

  compared : (ts : List Token) (x : Expr) → IsCompared E ts x → tokens_fit ts ≡ true → numbers_fit x ≡ true
  compared ts z (IsCompared.alone h) fit = sum ts z h fit
  compared ts z (IsCompared.compared {ts = us} {us = vs} {x = x} {y = y} o op a means b) fit =
      let both = apart_fit us o vs fit in
      tree_fits (us ++ o ∷ vs) (forms.Binary op x y) (ExprForm-F.Binary op x y) (forms.rolls-Binary op x y)
      (and_from (numbers_fit x) (numbers_fit y) (sum us x a both.0) (sum vs y b both.1))

  negated : (ts : List Token) (x : Expr) → IsNegated E ts x → tokens_fit ts ≡ true → numbers_fit x ≡ true
  negated ts y (IsNegated.negated {ts = us} {x = x} k is h) fit =
      tree_fits (k ∷ us) (forms.Unary one.Not x) (ExprForm-F.Unary one.Not x) (forms.rolls-Unary one.Not x) (f negation us x h (rest_fits k us fit))
  negated ts y (IsNegated.plain h) fit = compared ts y h fit

  conjunction : (ts : List Token) (x : Expr) → IsBoth E ts x → tokens_fit ts ≡ true → numbers_fit x ≡ true
  conjunction = chain boths (IsNegated E) negated

  either : (ts : List Token) (x : Expr) → IsEither E ts x → tokens_fit ts ≡ true → numbers_fit x ≡ true
  either = chain eithers (IsBoth E) conjunction

  overlaid : (ts : List Token) (x : Expr) → IsOverlaid E ts x → tokens_fit ts ≡ true → numbers_fit x ≡ true
  overlaid = chain overlays (IsEither E) either

  condition : {ts : List Token} {c : Option Expr} → IsOptional (IsAfter "where" (E any)) ts c → tokens_fit ts ≡ true → condition_numbers_fit c ≡ true
  condition IsOptional.absent fit = refl
  condition (IsOptional.present h) fit = after (E any) numbers_fit (f any) _ _ h fit

  whole : (ts : List Token) (x : Expr) → IsWhole E ts x → tokens_fit ts ≡ true → numbers_fit x ≡ true
  whole ts y (IsWhole.marray {ts = us} {us = vs} {d = d} {e = e} m n i v x marray is in' h values b) fit =
      let both = apart_fit us v vs (parts_fit (m ∷ n ∷ i ∷ []) (us ++ v ∷ vs) fit).1 in
      tree_fits (m ∷ n ∷ i ∷ us ++ v ∷ vs) (forms.Marray x d e) (ExprForm-F.Marray x d e) (forms.rolls-Marray x d e)
      (and_from (domain_fits d) (numbers_fit e) (domain h both.0) (f any vs e b both.1))
  whole ts y (IsWhole.condense {ts = us} {us = vs} {vs = ws} {d = d} {cond = c} {e = e} k g o n i u op x condense means over is in' h cond using b) fit =
      let back = apart_fit (us ++ vs) u ws (parts_fit (k ∷ g ∷ o ∷ n ∷ i ∷ []) (us ++ vs ++ u ∷ ws) fit).1 in
      let both = parts_fit us vs back.0 in
      condense_fits (k ∷ g ∷ o ∷ n ∷ i ∷ us ++ vs ++ u ∷ ws) op x d c e (domain h both.0) (condition cond both.1) (f any ws e b back.1)
  whole ts y (IsWhole.concat {ts = us} {us = vs} {x = x} {xs = xs} k a n z concat h hs along is) fit =
      let both = parts_fit us vs (parts_fit (us ++ vs) (a ∷ n ∷ []) (rest_fits k (us ++ vs ++ a ∷ n ∷ []) fit)).0 in
      tree_fits (k ∷ us ++ vs ++ a ∷ n ∷ []) (forms.Concat (x ∷ xs) z) (ExprForm-F.Concat (x ∷ xs) z) (forms.rolls-Concat (x ∷ xs) z)
      (each_fits numbers_fit (x ∷ xs) (and_from (numbers_fit x) (list_all numbers_fit xs) (f any us x h both.0)
      (row (IsAfter "with" (E any)) numbers_fit (after (E any) numbers_fit (f any)) hs both.1)))
  whole ts y (IsWhole.overlaid h) fit = overlaid ts y h fit

  at_level : (level : Level) (ts : List Token) (x : Expr) → IsLevel E level ts x → tokens_fit ts ≡ true → numbers_fit x ≡ true
  at_level any ts x h = whole ts x h
  at_level negation ts x h = negated ts x h
  at_level signed ts x h = signed' ts x h

  -- ---- statements

  target : {ts : List Token} {as' : Option (List Axis)} → IsOptional (IsIndex E) ts as' → tokens_fit ts ≡ true → target_numbers_fit as' ≡ true
  target IsOptional.absent fit = refl
  target (IsOptional.present {x = xs} h) fit = each_fits axis_numbers_fit xs (index h fit)

  form : {ts : List Token} {x : StatementForm} → IsForm E ts x → tokens_fit ts ≡ true → statement_numbers_fit x ≡ true
  form (IsForm.select {ts = us} {e = e} k is h) fit = and_from (numbers_fit e) true (f any us e h (rest_fits k us fit)) refl
  form (IsForm.select_from {ts = us} {us = vs} {vs = ws} {e = e} {cond = c} k g is h from sources cond) fit =
      let both = parts_fit (us ++ g ∷ vs) ws (rest_fits k (us ++ g ∷ vs ++ ws) fit) in
      and_from (numbers_fit e) (condition_numbers_fit c) (f any us e h (apart_fit us g vs both.0).0) (condition cond both.1)
  form (IsForm.insert {ts = us} {e = e} k i n v x is into named values h) fit = f any us e h (parts_fit (k ∷ i ∷ n ∷ v ∷ []) us fit).1
  form (IsForm.delete {ts = us} {us = vs} k g is from one cond) fit = condition cond (parts_fit (k ∷ g ∷ us) vs fit).1
  form (IsForm.update {ts = us} {us = vs} {vs = ws} {ws = xs} {axes = as'} {e = e} {cond = c} k s' n a x is of set named h assign b cond) fit =
      let back = parts_fit (us ++ s' ∷ n ∷ vs ++ a ∷ ws) xs (rest_fits k (us ++ s' ∷ n ∷ vs ++ a ∷ ws ++ xs) fit) in
      let middle = apart_fit (us ++ s' ∷ n ∷ vs) a ws back.0 in
      let index = rest_fits n vs (apart_fit us s' (n ∷ vs) middle.0).1 in
      and_from (target_numbers_fit as') (numbers_fit e && condition_numbers_fit c) (target h index)
      (and_from (numbers_fit e) (condition_numbers_fit c) (f any ws e b middle.1) (condition cond back.1))
  form (IsForm.create k c n t x y is collection named typed) fit = refl
  form (IsForm.drop k c n x is collection named) fit = refl
  form (IsForm.begin k is) fit = refl
  form (IsForm.begin_retry k r n times is retry number some few) fit = refl
  form (IsForm.commit k is) fit = refl
  form (IsForm.commit_anyway k a is anyway) fit = refl
  form (IsForm.abort k is) fit = refl

nested : (n : ℕ) (level : Level) (ts : List Token) (x : Expr) → Nested n level ts x → tokens_fit ts ≡ true → numbers_fit x ≡ true
nested zero level ts x h = elim h [ ]
nested (suc n) level ts x h = at_level (Nested n) (nested n) level ts x h

pub numbers_of_statement : (text : Text) (statement : Statement) → IsVerdict text (Ok statement) → IsTrue (statement_numbers_fit statement.form)
numbers_of_statement text s (IsVerdict.statement f none is light) = form IsAt (λ level ts x h. nested h.0 level ts x h.1) is (lexed_from-fits (length text) 0 text)
