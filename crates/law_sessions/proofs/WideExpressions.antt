-- What a text's expression gives in a scope of declared types has a number at least in each cell.
use Prim.Native.String.{String as Literal}
use Rattle.std.proofs.Common.{◌≡◌, ℕ, zero, suc, ℤ, Bool, true, false, if◌then◌else◌, List, [], ◌∷◌, ◌++◌, map, Option, Some, None, Result, Ok, Err, option_map, refl, sym, ap, ◌∙◌, subst, arith}
use Rattle.std.specs.List.{AllByRecursion}
use Rattle.ras_cells.specs.declared.atom.Atom.{Atom}
use Rattle.ras_cells.specs.declared.cell.CellType.TheVariants as types
use Rattle.ras_cells.specs.declared.numbers.Op1.{Op1}
use Rattle.ras_cells.specs.declared.numbers.Op1.TheVariants as one
use Rattle.ras_cells.specs.declared.numbers.Op2.{Op2}
use Rattle.ras_syntax.specs.declared.span.Span.{Span}
use Rattle.ras_syntax.specs.declared.span.Spanned.{Spanned}
use Rattle.ras_syntax.specs.declared.expr.Axis.{Axis}
use Rattle.ras_syntax.specs.declared.expr.CellsFold.{CellsFold}
use Rattle.ras_syntax.specs.declared.expr.DomainExpr.{DomainExpr}
use Rattle.ras_syntax.specs.declared.expr.Expr.{Expr}
use Rattle.ras_syntax.specs.declared.expr.ExprForm.{ExprForm}
use Rattle.ras_syntax.specs.declared.expr.ExprForm.TheVariants as forms
use Rattle.ras_syntax.specs.declared.expr.FoldOp.{FoldOp}
use Rattle.ras_syntax.specs.declared.expr.Part.{Part}
use Rattle.ras_syntax.specs.declared.expr.Part.TheVariants as components
use Rattle.ras_syntax.specs.declared.faults.CheckFault.{CheckFault}
use Rattle.ras_syntax.specs.declared.statement.Statement.{Statement}
use Rattle.ras_syntax.specs.declared.statement.StatementForm.{StatementForm}
use Rattle.ras_syntax.specs.declared.statement.StatementForm.TheVariants as statements
use Rattle.ras_syntax.specs.declared.typed.CheckedSource.{CheckedSource}
use Rattle.ras_syntax.specs.declared.typed.Kind.{Kind}
use Rattle.ras_syntax.specs.declared.typed.Kind.TheVariants as kinds
use Rattle.ras_syntax.specs.declared.typed.TypedExpr.{TypedExpr, roll-TypedExpr}
use Rattle.ras_syntax.specs.declared.typed.TypedForm.{TypedForm}
use Rattle.spec_expressions.specs.Check.{Check, checked_all, checked_axes, checked_axis, checked_expr, checked_name, checked_option, checked_pairs, iterator_kind, kind_of, kinds_of, new_name, oid_kind, part_kind, placed_at, tree_of_axes, typed_of}
use Rattle.spec_expressions.specs.Kinds.{bool_type, composite_kind, scalar_cell}
use Rattle.spec_expressions.specs.Names.{Scope, source_from, source_named, variable_axes, with_variable}
use Rattle.spec_expressions.specs.Tree.{NameOf, is_same_name, tree_of}
use Rattle.spec_expressions.specs.WellTyped.{kind_in}
use Rattle.spec_grammar.specs.Tokens.{Text, Token}
use Rattle.spec_grammar.specs.Grammar.{span_of, tree, Rel, Table, IsChain, IsRow, IsCommaList, IsBetween, IsAfter, Level, any, negation, signed, IsArm, InParentheses, Exprs, IsPrimary, IsPart, IsSigned, IsProduct, IsSum, IsCompared, IsNegated, IsBoth, IsEither, IsOverlaid, IsWhole, IsLevel, IsForm, Nested, IsAt, overlays, eithers, boths, sums, products}
use Rattle.spec_grammar.specs.Verdict.{IsVerdict}
use Rattle.spec_statements.proofs.CheckedForms.{bool_is, binary_is, build_is, case_is, cast_is, cells_is, checked_domain, checked_form_of, concat_is, condense_is, expr_is, extend_is, index_is, marray_is, name_is, number_is, oid_is, part_is, sdom_is, shift_is, tree_is, unary_is}
use Rattle.law_checks.proofs.Parts.{kind_in-tree_of}
use Rattle.law_checks.proofs.Statements.{placed_at-given}
use Rattle.law_lists.proofs.Choices.{ok_keeps}
use Rattle.law_lists.proofs.Each.{append_all}
use Rattle.law_shapes.proofs.Outcomes.{bind_ok, same_ok}
use Rattle.law_sessions.proofs.Widths.{IsWide, IsWideKind, binary-wide, casted-wide, choice-wide, composite-wide, concat-wide, condense-wide, extend-wide, folded-wide, index-wide, itself-wide, oid-wide, on_scalar-wide, over-wide, part-wide, sdom-wide, shift-wide, some_same, unary-wide}

-- ---- checks

-- what a check gives in a scope whose sources are of declared types
abbrev pub IsSourceWide : CheckedSource → Type 0
IsSourceWide source = IsWide source.of.cell

abbrev pub AreSourcesWide : Scope → Type 0
AreSourcesWide scope = AllByRecursion IsSourceWide scope.sources

abbrev pub GivesWide : Check → Type 0
GivesWide check = (scope : Scope) (x : TypedExpr) → AreSourcesWide scope → check scope ≡ Ok x → IsWideKind (kind_of x)

abbrev pub IsWideExpr : Expr → Type 0
IsWideExpr e = GivesWide (checked_expr e)

-- what a form gives at a place
abbrev GivesWideAt : (Span → Check) → Type 0
GivesWideAt check = (s : Span) → GivesWide (check s)

typed-wide : (s : Span) (form : TypedForm) (rule : Result Kind CheckFault) (x : TypedExpr) → typed_of s form rule ≡ Ok x
    → ((kind : Kind) → rule ≡ Ok kind → IsWideKind kind) → IsWideKind (kind_of x)
typed-wide s form (Ok kind) x is wide =
    let made : TypedExpr = roll-TypedExpr (record { span = s; kind = kind; form = form }) in
    let same : kind ≡ kind_of made = ap kind_in (sym (tree_is s kind form)) ∙ kind_in-tree_of made in
    subst (λ y. IsWideKind (kind_of y)) (same_ok made x is) (subst IsWideKind same (wide kind refl))
typed-wide s form (Err fault) x is wide = absurd cc

-- an expression of these tokens is its form
tree-wide : (ts : List Token) (form : ExprForm) → GivesWideAt (checked_form_of form) → IsWideExpr (tree ts form)
tree-wide ts form gives scope x sources is = gives (span_of ts) scope x sources (sym (expr_is (span_of ts) form scope) ∙ is)

unary-gives : (op : Op1) (e : Expr) → GivesWideAt (checked_form_of (forms.Unary op e))
unary-gives op e s scope x sources is =
    let (y, found, last) = bind_ok (checked_expr e scope) _ x (sym (unary_is op e s scope) ∙ is) in
    typed-wide s _ _ x last (λ kind rule. unary-wide op (kind_of y) kind rule)

cast-gives : (to : Atom) (e : Expr) → GivesWideAt (checked_form_of (forms.Cast to e))
cast-gives to e s scope x sources is =
    let (y, found, last) = bind_ok (checked_expr e scope) _ x (sym (cast_is to e s scope) ∙ is) in
    typed-wide s _ _ x last (λ kind rule. casted-wide to (kind_of y) kind rule)

binary-gives : (op : Op2) (a b : Expr) → IsWideExpr a → GivesWideAt (checked_form_of (forms.Binary op a b))
binary-gives op a b wide s scope x sources is =
    let (y, found, then_1) = bind_ok (checked_expr a scope) _ x (sym (binary_is op a b s scope) ∙ is) in
    let (z, other, last) = bind_ok (checked_expr b scope) _ x then_1 in
    typed-wide s _ _ x last (λ kind rule. binary-wide op (kind_of y) (kind_of z) kind rule (wide scope y sources found))

bool-gives : (b : Bool) → GivesWideAt (checked_form_of (forms.Bool b))
bool-gives b s scope x sources is =
    typed-wide s _ _ x (sym (bool_is b s scope) ∙ is) (λ kind rule. subst IsWideKind (same_ok (kinds.Scalar bool_type) kind rule) (omega arith))

number-gives : (z : ℤ) (atom : Atom) → GivesWideAt (checked_form_of (forms.Number z atom))
number-gives z atom s scope x sources is =
    typed-wide s _ _ x (sym (number_is z atom s scope) ∙ is) (λ kind rule. subst IsWideKind (same_ok (kinds.Scalar (types.Atom atom)) kind rule) (omega arith))

-- an iterator has its source's type
source-found : (a : NameOf) (sources : List CheckedSource) (from : ℕ) (found : ℕ × CheckedSource) → AllByRecursion IsSourceWide sources → source_from from a sources ≡ Some found
    → IsSourceWide found.1
source-found a [] from found wide is = absurd cc
source-found a (source ∷ sources) from found wide is = at (is_same_name a source.iterator) (source-found a sources (suc from) found wide.1) is
  where
    at : (same : Bool) → (source_from (suc from) a sources ≡ Some found → IsSourceWide found.1)
        → (if same then Some (from, source) else source_from (suc from) a sources) ≡ Some found → IsSourceWide found.1
    at true later is = subst (λ (p : ℕ × CheckedSource). IsSourceWide p.1) (some_same is) wide.0
    at false later is = later is

name-gives : (name : NameOf) → GivesWideAt (checked_form_of (forms.Name name))
name-gives name s scope x sources is = at (variable_axes scope name) (source_named scope name) refl (sym (name_is name s scope) ∙ is)
  where
    at : (axes : Option ℕ) (source : Option (ℕ × CheckedSource)) → source_named scope name ≡ source → checked_name s name axes source ≡ Ok x → IsWideKind (kind_of x)
    at (Some axes) source from is = typed-wide s _ _ x is (λ kind rule. subst IsWideKind (same_ok (kinds.Point axes) kind rule) tt)
    at None (Some found) from is =
        typed-wide s _ _ x is (λ kind rule. subst IsWideKind (same_ok (iterator_kind found.1) kind rule) (source-found name scope.sources 0 found sources from))
    at None None from is = absurd cc

index-gives : (e : Expr) (axes : List Axis) → IsWideExpr e → GivesWideAt (checked_form_of (forms.Index e axes))
index-gives e axes wide s scope x sources is =
    let (y, found, then_1) = bind_ok (checked_expr e scope) _ x (sym (index_is e axes s scope) ∙ is) in
    let (ys, others, last) = bind_ok (checked_axes (map checked_axis axes) scope) _ x then_1 in
    typed-wide s _ _ x last (λ kind rule. index-wide (tree_of y) (tree_of_axes ys) kind rule (subst IsWideKind (sym (kind_in-tree_of y)) (wide scope y sources found)))

part-gives : (e : Expr) (part : Part) → GivesWideAt (checked_form_of (forms.Part e part))
part-gives e part s scope x sources is =
    let (y, found, then_1) = bind_ok (checked_expr e scope) _ x (sym (part_is e part s scope) ∙ is) in
    let (p, given, last) = bind_ok (placed_at s (part_kind scope.sources (tree_of y) part)) _ x then_1 in
    typed-wide s _ _ x last (λ kind rule. subst IsWideKind (same_ok p.0 kind rule) (part-wide scope.sources (tree_of y) part p (placed_at-given s _ p given)))

-- the second parts of pairs
seconds-wide : (scope : Scope) (ps : List (Expr × Expr)) (ys : List (TypedExpr × TypedExpr)) → AreSourcesWide scope → AllByRecursion (λ p. IsWideExpr p.1) ps
    → checked_pairs (map (λ p. (checked_expr p.0, checked_expr p.1)) ps) scope ≡ Ok ys → AllByRecursion IsWideKind (map (λ arm. kind_of arm.1) ys)
seconds-wide scope [] ys sources wide is = ok_keeps (λ l. AllByRecursion IsWideKind (map (λ arm. kind_of arm.1) l)) [] ys is tt
seconds-wide scope (p ∷ ps) ys sources wide is =
    let (c, first, then_1) = bind_ok (checked_expr p.0 scope) _ ys is in
    let (y, second, then_2) = bind_ok (checked_expr p.1 scope) _ ys then_1 in
    let (rest, others, last) = bind_ok (checked_pairs (map (λ p. (checked_expr p.0, checked_expr p.1)) ps) scope) _ ys then_2 in
    ok_keeps (λ l. AllByRecursion IsWideKind (map (λ arm. kind_of arm.1) l)) ((c, y) ∷ rest) ys last
    (wide.0 scope y sources second, seconds-wide scope ps rest sources wide.1 others)

case-gives : (arms : List (Expr × Expr)) (other : Expr) → AllByRecursion (λ p. IsWideExpr p.1) arms → IsWideExpr other → GivesWideAt (checked_form_of (forms.Case arms other))
case-gives arms other wide last_wide s scope x sources is =
    let (ys, found, then_1) = bind_ok (checked_pairs (map (λ p. (checked_expr p.0, checked_expr p.1)) arms) scope) _ x (sym (case_is arms other s scope) ∙ is) in
    let (y, found_last, last) = bind_ok (checked_expr other scope) _ x then_1 in
    let branches : List Kind = map (λ arm. kind_of arm.1) ys in
    typed-wide s _ _ x last (λ kind rule. choice-wide (map (λ arm. kind_of arm.0) ys) (branches ++ kind_of y ∷ []) kind rule
    (append_all IsWideKind branches (kind_of y ∷ []) (seconds-wide scope arms ys sources wide found) (last_wide scope y sources found_last, tt)))

-- as many as were written
all-wide : (scope : Scope) (es : List Expr) (ys : List TypedExpr) → AreSourcesWide scope → AllByRecursion IsWideExpr es
    → checked_all (map checked_expr es) scope ≡ Ok ys → AllByRecursion IsWideKind (kinds_of ys)
all-wide scope [] ys sources wide is = ok_keeps (λ l. AllByRecursion IsWideKind (kinds_of l)) [] ys is tt
all-wide scope (e ∷ es) ys sources wide is =
    let (y, found, then_1) = bind_ok (checked_expr e scope) _ ys is in
    let (rest, others, last) = bind_ok (checked_all (map checked_expr es) scope) _ ys then_1 in
    ok_keeps (λ l. AllByRecursion IsWideKind (kinds_of l)) (y ∷ rest) ys last (wide.0 scope y sources found, all-wide scope es rest sources wide.1 others)

build-gives : (e : Expr) (es : List Expr) → GivesWideAt (checked_form_of (forms.Build (e ∷ es)))
build-gives e es s scope x sources is =
    let (ys, found, last) = bind_ok (checked_all (map checked_expr (e ∷ es)) scope) _ x (sym (build_is (e ∷ es) s scope) ∙ is) in
    let (y, first, then_1) = bind_ok (checked_expr e scope) _ ys found in
    let (rest, others, are) = bind_ok (checked_all (map checked_expr es) scope) _ ys then_1 in
    typed-wide s _ _ x last (λ kind rule. composite-wide (kind_of y) (kinds_of rest) kind (subst (λ l. composite_kind (kinds_of l) ≡ Ok kind) (sym (same_ok (y ∷ rest) ys are)) rule))

marray-gives : (name : Spanned) (d : DomainExpr) (e : Expr) → IsWideExpr e → GivesWideAt (checked_form_of (forms.Marray name d e))
marray-gives name d e wide s scope x sources is =
    let (on, found, then_1) = bind_ok (checked_domain d scope) _ x (sym (marray_is name d e s scope) ∙ is) in
    let (y, inner, then_2) = bind_ok (checked_expr e (with_variable name.name on.axes scope)) _ x then_1 in
    let (new, fresh, last) = bind_ok (new_name name scope) _ x then_2 in
    typed-wide s _ _ x last (λ kind rule. over-wide on true (scalar_cell (kind_of y)) kind rule
    (λ type given. on_scalar-wide Some (kind_of y) type given (wide (with_variable name.name on.axes scope) y sources inner) (λ a same. itself-wide a type same)))

condense-gives : (op : FoldOp) (name : Spanned) (d : DomainExpr) (condition : Option Expr) (e : Expr) → GivesWideAt (checked_form_of (forms.Condense op name d condition e))
condense-gives op name d condition e s scope x sources is =
    let (on, found, then_1) = bind_ok (checked_domain d scope) _ x (sym (condense_is op name d condition e s scope) ∙ is) in
    let (test, tested, then_2) = bind_ok (checked_option (option_map checked_expr condition) (with_variable name.name on.axes scope)) _ x then_1 in
    let (y, inner, then_3) = bind_ok (checked_expr e (with_variable name.name on.axes scope)) _ x then_2 in
    let (new, fresh, last) = bind_ok (new_name name scope) _ x then_3 in
    typed-wide s _ _ x last (λ kind rule. condense-wide op on test (kind_of y) kind rule)

cells-gives : (f : CellsFold) (e : Expr) → GivesWideAt (checked_form_of (forms.Cells f e))
cells-gives f e s scope x sources is =
    let (y, found, last) = bind_ok (checked_expr e scope) _ x (sym (cells_is f e s scope) ∙ is) in
    typed-wide s _ _ x last (λ kind rule. folded-wide f (kind_of y) kind rule)

shift-gives : (e : Expr) (offsets : List Expr) → IsWideExpr e → GivesWideAt (checked_form_of (forms.Shift e offsets))
shift-gives e offsets wide s scope x sources is =
    let (y, found, then_1) = bind_ok (checked_expr e scope) _ x (sym (shift_is e offsets s scope) ∙ is) in
    let (ys, others, last) = bind_ok (checked_all (map checked_expr offsets) scope) _ x then_1 in
    typed-wide s _ _ x last (λ kind rule. shift-wide (kind_of y) ys kind rule (wide scope y sources found))

extend-gives : (e : Expr) (d : DomainExpr) → IsWideExpr e → GivesWideAt (checked_form_of (forms.Extend e d))
extend-gives e d wide s scope x sources is =
    let (y, found, then_1) = bind_ok (checked_expr e scope) _ x (sym (extend_is e d s scope) ∙ is) in
    let (on, given, last) = bind_ok (checked_domain d scope) _ x then_1 in
    typed-wide s _ _ x last (λ kind rule. extend-wide (kind_of y) on kind rule (wide scope y sources found))

concat-gives : (parts : List Expr) (along : ℤ) → AllByRecursion IsWideExpr parts → GivesWideAt (checked_form_of (forms.Concat parts along))
concat-gives parts along wide s scope x sources is =
    let (ys, found, last) = bind_ok (checked_all (map checked_expr parts) scope) _ x (sym (concat_is parts along s scope) ∙ is) in
    typed-wide s _ _ x last (λ kind rule. concat-wide along (kinds_of ys) kind rule (all-wide scope parts ys sources wide found))

sdom-gives : (e : Expr) → GivesWideAt (checked_form_of (forms.Sdom e))
sdom-gives e s scope x sources is =
    let (y, found, last) = bind_ok (checked_expr e scope) _ x (sym (sdom_is e s scope) ∙ is) in
    typed-wide s _ _ x last (λ kind rule. sdom-wide (kind_of y) kind rule)

oid-gives : (a : Spanned) → GivesWideAt (checked_form_of (forms.Oid a))
oid-gives a s scope x sources is =
    let (k, given, last) = bind_ok (placed_at a.span (oid_kind (variable_axes scope a.name) (source_named scope a.name))) _ x (sym (oid_is a s scope) ∙ is) in
    typed-wide s _ _ x last (λ kind rule. subst IsWideKind (same_ok k kind rule)
    (oid-wide (variable_axes scope a.name) (source_named scope a.name) k (placed_at-given a.span _ k given)))

-- ---- lists of the grammar

module _ {A : Type 0} (I : Rel A) (P : A → Type 0) (f : (ts : List Token) (x : A) → I ts x → P x) where
  row : {ts : List Token} {xs : List A} → IsRow I ts xs → AllByRecursion P xs
  row (IsRow.first h) = (f _ _ h, tt)
  row (IsRow.more {us = vs} {xs = xs} {x = x} hs h) = append_all P xs (x ∷ []) (row hs) (f vs x h, tt)

  after : {keyword : Literal} (ts : List Token) (x : A) → IsAfter keyword I ts x → P x
  after ts x' (IsAfter.after {ts = us} {x = x} k is h) = f us x h

  between : {opening closing : Literal} {ts : List Token} {x : A} → IsBetween opening closing I ts x → P x
  between (IsBetween.between {ts = us} {x = x} o c left h right) = f us x h

-- a list of the grammar has an element
record IsSome {A : Type 0} (xs : List A) : Type 0 where
  head : A
  tail : List A
  are : head ∷ tail ≡ xs

comma-some : {A : Type 0} (I : Rel A) (ts : List Token) (xs : List A) → IsCommaList I ts xs → IsSome xs
comma-some I ts xs (IsCommaList.first {x = x} h) = record { head = x; tail = []; are = refl }
comma-some I ts xs' (IsCommaList.more {ts = us} {us = vs} {xs = xs} {x = x} c hs comma h) =
    let some = comma-some I us xs hs in record { head = some.head; tail = some.tail ++ x ∷ []; are = ap (λ l. l ++ x ∷ []) some.are }

build-some : (ts : List Token) (es : List Expr) → IsSome es → IsWideExpr (tree ts (forms.Build es))
build-some ts es some = subst (λ l. IsWideExpr (tree ts (forms.Build l))) some.are (tree-wide ts (forms.Build (some.head ∷ some.tail)) (build-gives some.head some.tail))

module _ (operators : Table Op2) (I : Rel Expr) (f : (ts : List Token) (x : Expr) → I ts x → IsWideExpr x) where
  chain : (ts : List Token) (x : Expr) → IsChain operators I ts x → IsWideExpr x
  chain ts x (IsChain.alone h) = f _ _ h
  chain ts x' (IsChain.more {ts = us} {us = vs} {x = x} {y = y} o op hs means h) =
      tree-wide (us ++ o ∷ vs) (forms.Binary op x y) (binary-gives op x y (chain us x hs))

-- ---- the productions

module _ (E : Level → Rel Expr) (f : (level : Level) (ts : List Token) (x : Expr) → E level ts x → IsWideExpr x) where
  parentheses : {ts : List Token} {x : Expr} → InParentheses E ts x → IsWideExpr x
  parentheses = between (E any) IsWideExpr (f any)

  arm : (ts : List Token) (x : Expr × Expr) → IsArm E ts x → IsWideExpr x.1
  arm ts p (IsArm.arm {us = vs} {x = x} k t when a then' b) = f any vs x b

  primary : {ts : List Token} {x : Expr} → IsPrimary E ts x → IsWideExpr x
  primary (IsPrimary.number t z a is) = tree-wide (t ∷ []) (forms.Number z a) (number-gives z a)
  primary (IsPrimary.truth t b is) = tree-wide (t ∷ []) (forms.Bool b) (bool-gives b)
  primary (IsPrimary.name t text is) = tree-wide (t ∷ []) (forms.Name text) (name-gives text)
  primary (IsPrimary.parentheses h) = parentheses h
  primary (IsPrimary.braces {ts = us} {xs = xs} h few) = build-some us xs (between (Exprs E) IsSome (comma-some (E any)) h)
  primary (IsPrimary.struct {ts = us} {xs = xs} k is h few) = build-some (k ∷ us) xs (between (Exprs E) IsSome (comma-some (E any)) h)
  primary (IsPrimary.choice {ts = us} {us = vs} {arms = arms} {x = x} k e n case each other h end) =
      tree-wide (k ∷ us ++ e ∷ vs ++ n ∷ []) (forms.Case arms x) (case-gives arms x (row (IsArm E) (λ p. IsWideExpr p.1) arm each) (f any vs x h))
  primary (IsPrimary.call {ts = us} {us = vs} {x = x} {y = y} g o c p op means left a comma b right) =
      tree-wide (g ∷ o ∷ us ++ c ∷ vs ++ p ∷ []) (forms.Binary op x y) (binary-gives op x y (f any us x a))
  primary (IsPrimary.abs {ts = us} {x = x} g is h) = tree-wide (g ∷ us) (forms.Unary one.Abs x) (unary-gives one.Abs x)
  primary (IsPrimary.folded {ts = us} {x = x} g fold means h) = tree-wide (g ∷ us) (forms.Cells fold x) (cells-gives fold x)
  primary (IsPrimary.shift {ts = us} {us = vs} {x = x} {offsets = offsets} g o c p is left a comma b right) =
      tree-wide (g ∷ o ∷ us ++ c ∷ vs ++ p ∷ []) (forms.Shift x offsets) (shift-gives x offsets (f any us x a))
  primary (IsPrimary.extend {ts = us} {us = vs} {x = x} {d = d} g o c p is left a comma b right) =
      tree-wide (g ∷ o ∷ us ++ c ∷ vs ++ p ∷ []) (forms.Extend x d) (extend-gives x d (f any us x a))
  primary (IsPrimary.sdom {ts = us} {x = x} g is h) = tree-wide (g ∷ us) (forms.Sdom x) (sdom-gives x)
  primary (IsPrimary.oid {ts = us} {a = a} g is h) = tree-wide (g ∷ us) (forms.Oid a) (oid-gives a)

  part : {ts : List Token} {x : Expr} → IsPart E ts x → IsWideExpr x
  part (IsPart.alone h) = primary h
  part (IsPart.indexed {ts = us} {us = vs} {x = x} {axes = as'} h i) = tree-wide (us ++ vs) (forms.Index x as') (index-gives x as' (part h))
  part (IsPart.named {ts = us} {x = x} d n text h dot is) =
      tree-wide (us ++ d ∷ n ∷ []) (forms.Part x (components.Named text)) (part-gives x (components.Named text))
  part (IsPart.numbered {ts = us} {x = x} d n z h dot is) =
      tree-wide (us ++ d ∷ n ∷ []) (forms.Part x (components.Numbered z)) (part-gives x (components.Numbered z))

  signed' : (ts : List Token) (x : Expr) → IsSigned E ts x → IsWideExpr x
  signed' ts y (IsSigned.minus {ts = us} {x = x} m is h) = tree-wide (m ∷ us) (forms.Unary one.Neg x) (unary-gives one.Neg x)
  signed' ts y (IsSigned.cast {ts = us} {us = vs} {a = a} {x = x} to h) = tree-wide (us ++ vs) (forms.Cast a x) (cast-gives a x)
  signed' ts y (IsSigned.part h) = part h

  product : (ts : List Token) (x : Expr) → IsProduct E ts x → IsWideExpr x
  product = chain products (IsSigned E) signed'

  sum : (ts : List Token) (x : Expr) → IsSum E ts x → IsWideExpr x
  sum = chain sums (IsProduct E) product

  compared : (ts : List Token) (x : Expr) → IsCompared E ts x → IsWideExpr x
  compared ts z (IsCompared.alone h) = sum ts z h
  compared ts z (IsCompared.compared {ts = us} {us = vs} {x = x} {y = y} o op a means b) =
      tree-wide (us ++ o ∷ vs) (forms.Binary op x y) (binary-gives op x y (sum us x a))

  negated : (ts : List Token) (x : Expr) → IsNegated E ts x → IsWideExpr x
  negated ts y (IsNegated.negated {ts = us} {x = x} k is h) = tree-wide (k ∷ us) (forms.Unary one.Not x) (unary-gives one.Not x)
  negated ts y (IsNegated.plain h) = compared ts y h

  conjunction : (ts : List Token) (x : Expr) → IsBoth E ts x → IsWideExpr x
  conjunction = chain boths (IsNegated E) negated

  either : (ts : List Token) (x : Expr) → IsEither E ts x → IsWideExpr x
  either = chain eithers (IsBoth E) conjunction

  overlaid : (ts : List Token) (x : Expr) → IsOverlaid E ts x → IsWideExpr x
  overlaid = chain overlays (IsEither E) either

  whole : (ts : List Token) (x : Expr) → IsWhole E ts x → IsWideExpr x
  whole ts y (IsWhole.marray {ts = us} {us = vs} {d = d} {e = e} m n i v x marray is in' h values b) =
      tree-wide (m ∷ n ∷ i ∷ us ++ v ∷ vs) (forms.Marray x d e) (marray-gives x d e (f any vs e b))
  whole ts y (IsWhole.condense {ts = us} {us = vs} {vs = ws} {d = d} {cond = c} {e = e} k g o n i u op x condense means over is in' h cond using b) =
      tree-wide (k ∷ g ∷ o ∷ n ∷ i ∷ us ++ vs ++ u ∷ ws) (forms.Condense op x d c e) (condense-gives op x d c e)
  whole ts y (IsWhole.concat {ts = us} {us = vs} {x = x} {xs = xs} k a n z concat h hs along is) =
      tree-wide (k ∷ us ++ vs ++ a ∷ n ∷ []) (forms.Concat (x ∷ xs) z)
      (concat-gives (x ∷ xs) z (f any us x h, row (IsAfter "with" (E any)) IsWideExpr (after (E any) IsWideExpr (f any)) hs))
  whole ts y (IsWhole.overlaid h) = overlaid ts y h

  at_level : (level : Level) (ts : List Token) (x : Expr) → IsLevel E level ts x → IsWideExpr x
  at_level any ts x h = whole ts x h
  at_level negation ts x h = negated ts x h
  at_level signed ts x h = signed' ts x h

nested : (n : ℕ) (level : Level) (ts : List Token) (x : Expr) → Nested n level ts x → IsWideExpr x
nested zero level ts x h = elim h [ ]
nested (suc n) level ts x h = at_level (Nested n) (nested n) level ts x h

-- ---- statements

-- the body of a select
abbrev pub IsBodyWide : StatementForm → Type 0
IsBodyWide (statements.Select body sources cond) = IsWideExpr body
IsBodyWide (statements.Insert into body) = Unit {0}
IsBodyWide (statements.Delete source cond) = Unit {0}
IsBodyWide (statements.Update source set axes target body cond) = Unit {0}
IsBodyWide (statements.Create name of) = Unit {0}
IsBodyWide (statements.Drop name) = Unit {0}
IsBodyWide (statements.Word word) = Unit {0}

form-wide : {ts : List Token} {form : StatementForm} → IsForm IsAt ts form → IsBodyWide form
form-wide (IsForm.select {ts = us} {e = e} k is h) = nested h.0 any us e h.1
form-wide (IsForm.select_from {ts = us} {e = e} k g is h from each cond) = nested h.0 any us e h.1
form-wide (IsForm.insert k i n v x is into named values h) = tt
form-wide (IsForm.delete k g is from one cond) = tt
form-wide (IsForm.update k s' n a x is of set named axes assign h cond) = tt
form-wide (IsForm.create k c n t x y is collection named typed) = tt
form-wide (IsForm.drop k c n x is collection named) = tt
form-wide (IsForm.begin k is) = tt
form-wide (IsForm.begin_retry k r n times is retry number some few) = tt
form-wide (IsForm.commit k is) = tt
form-wide (IsForm.commit_anyway k a is anyway) = tt
form-wide (IsForm.abort k is) = tt

pub text-wide : (text : Text) (statement : Statement) → IsVerdict text (Ok statement) → IsBodyWide statement.form
text-wide text statement (IsVerdict.statement form none is light) = form-wide is
