-- The check of each form, and the tree of each checked form, as equations.
use Rattle.std.specs.Prelude.{◌≡◌, ℕ, ℤ, Bool, List, map, Option, Some, None}
use Rattle.std.specs.Option.{option_map}
use mathlib.Core.Path.{sym, ap, ◌∙◌}
use Rattle.ras_cells.specs.declared.atom.Atom.{Atom}
use Rattle.ras_cells.specs.declared.numbers.Op1.{Op1}
use Rattle.ras_cells.specs.declared.numbers.Op2.{Op2}
use Rattle.ras_syntax.specs.declared.span.Span.{Span}
use Rattle.ras_syntax.specs.declared.span.Spanned.{Spanned}
use Rattle.ras_syntax.specs.declared.expr.Expr.{Expr, roll-Expr, fold-roll-Expr}
use Rattle.ras_syntax.specs.declared.expr.ExprForm.{ExprForm, fold-ExprForm, fold-roll-ExprForm}
use Rattle.ras_syntax.specs.declared.expr.ExprForm.TheVariants as form
use Rattle.ras_syntax.specs.declared.expr.Axis.{Axis, fold-roll-Axis}
use Rattle.ras_syntax.specs.declared.expr.Axis.TheVariants as axis
use Rattle.ras_syntax.specs.declared.expr.DomainExpr.{DomainExpr, fold-DomainExpr, fold-roll-DomainExpr}
use Rattle.ras_syntax.specs.declared.expr.DomainExpr.TheVariants as domain
use Rattle.ras_syntax.specs.declared.expr.Axis.TheOpen.{ExprForm-F, Axis-F, DomainExpr-F}
use Rattle.ras_syntax.specs.declared.expr.Part.{Part}
use Rattle.ras_syntax.specs.declared.expr.FoldOp.{FoldOp}
use Rattle.ras_syntax.specs.declared.expr.CellsFold.{CellsFold}
use Rattle.ras_syntax.specs.declared.typed.Kind.{Kind}
use Rattle.ras_syntax.specs.declared.typed.TypedExpr.{TypedExpr, roll-TypedExpr, fold-roll-TypedExpr}
use Rattle.ras_syntax.specs.declared.typed.TypedForm.{TypedForm, fold-TypedForm, fold-roll-TypedForm}
use Rattle.ras_syntax.specs.declared.typed.TypedForm.TheVariants as typed
use Rattle.ras_syntax.specs.declared.typed.TypedAxis.{TypedAxis, fold-TypedAxis, fold-roll-TypedAxis}
use Rattle.ras_syntax.specs.declared.typed.TypedAxis.TheVariants as taxis
use Rattle.ras_syntax.specs.declared.typed.TypedDomain.{TypedDomain, fold-TypedDomain, fold-roll-TypedDomain}
use Rattle.ras_syntax.specs.declared.typed.TypedDomain.TheVariants as tdomain
use Rattle.ras_syntax.specs.declared.typed.TypedAxis.TheOpen.{TypedForm-F, TypedAxis-F, TypedDomain-F}
use Rattle.spec_expressions.specs.Tree.{NameOf, Tree, Form, Axes, Domain, node, tree_of, axis_tree_step as tree_axis, domain_tree_step as tree_domain, form_tree_step as tree_form, expr_tree_step as tree_expr}
use Rattle.spec_expressions.specs.Names.{Scope}
use Rattle.spec_expressions.specs.Check.{AxisCheck, DomainCheck, FormCheck, Check, check_axis, check_domain, check_form, check_expr, checked_expr, checked_axis}

abbrev pub checked_form_of : ExprForm → FormCheck
checked_form_of = fold-ExprForm AxisCheck DomainCheck FormCheck Check check_axis check_domain check_form check_expr

abbrev pub checked_domain : DomainExpr → DomainCheck
checked_domain = fold-DomainExpr AxisCheck DomainCheck FormCheck Check check_axis check_domain check_form check_expr

abbrev pub form_of : TypedForm → Form
form_of = fold-TypedForm (Axes → Axes) Domain Form Tree tree_axis tree_domain tree_form tree_expr

abbrev pub domain_tree : TypedDomain → Domain
domain_tree = fold-TypedDomain (Axes → Axes) Domain Form Tree tree_axis tree_domain tree_form tree_expr

abbrev pub axis_tree : TypedAxis → Axes → Axes
axis_tree = fold-TypedAxis (Axes → Axes) Domain Form Tree tree_axis tree_domain tree_form tree_expr

-- ---- the check

-- an expression is its form at its place
pub expr_is : (s : Span) (f : ExprForm) (scope : Scope) → checked_expr (roll-Expr (record { span = s; form = f })) scope ≡ checked_form_of f s scope
expr_is s f scope = ap (λ check. check scope) (fold-roll-Expr AxisCheck DomainCheck FormCheck Check check_axis check_domain check_form check_expr (record { span = s; form = f }))

pub bool_is : (b : Bool) (s : Span) (scope : Scope) → checked_form_of (form.Bool b) s scope ≡ check_form (ExprForm-F.Bool b) s scope
bool_is b s scope =
    ap (λ f. checked_form_of f s scope) (sym (form.rolls-Bool b))
    ∙ ap (λ check. check s scope) (fold-roll-ExprForm AxisCheck DomainCheck FormCheck Check check_axis check_domain check_form check_expr (ExprForm-F.Bool b))

pub number_is : (z : ℤ) (atom : Atom) (s : Span) (scope : Scope) → checked_form_of (form.Number z atom) s scope ≡ check_form (ExprForm-F.Number z atom) s scope
number_is z atom s scope =
    ap (λ f. checked_form_of f s scope) (sym (form.rolls-Number z atom))
    ∙ ap (λ check. check s scope) (fold-roll-ExprForm AxisCheck DomainCheck FormCheck Check check_axis check_domain check_form check_expr (ExprForm-F.Number z atom))

pub name_is : (x : NameOf) (s : Span) (scope : Scope) → checked_form_of (form.Name x) s scope ≡ check_form (ExprForm-F.Name x) s scope
name_is x s scope =
    ap (λ f. checked_form_of f s scope) (sym (form.rolls-Name x))
    ∙ ap (λ check. check s scope) (fold-roll-ExprForm AxisCheck DomainCheck FormCheck Check check_axis check_domain check_form check_expr (ExprForm-F.Name x))

pub unary_is : (op : Op1) (e : Expr) (s : Span) (scope : Scope) → checked_form_of (form.Unary op e) s scope ≡ check_form (ExprForm-F.Unary op (checked_expr e)) s scope
unary_is op e s scope =
    ap (λ f. checked_form_of f s scope) (sym (form.rolls-Unary op e))
    ∙ ap (λ check. check s scope) (fold-roll-ExprForm AxisCheck DomainCheck FormCheck Check check_axis check_domain check_form check_expr (ExprForm-F.Unary op e))

pub cast_is : (to : Atom) (e : Expr) (s : Span) (scope : Scope) → checked_form_of (form.Cast to e) s scope ≡ check_form (ExprForm-F.Cast to (checked_expr e)) s scope
cast_is to e s scope =
    ap (λ f. checked_form_of f s scope) (sym (form.rolls-Cast to e))
    ∙ ap (λ check. check s scope) (fold-roll-ExprForm AxisCheck DomainCheck FormCheck Check check_axis check_domain check_form check_expr (ExprForm-F.Cast to e))

pub binary_is : (op : Op2) (a b : Expr) (s : Span) (scope : Scope)
    → checked_form_of (form.Binary op a b) s scope ≡ check_form (ExprForm-F.Binary op (checked_expr a) (checked_expr b)) s scope
binary_is op a b s scope =
    ap (λ f. checked_form_of f s scope) (sym (form.rolls-Binary op a b))
    ∙ ap (λ check. check s scope) (fold-roll-ExprForm AxisCheck DomainCheck FormCheck Check check_axis check_domain check_form check_expr (ExprForm-F.Binary op a b))

pub index_is : (e : Expr) (axes : List Axis) (s : Span) (scope : Scope)
    → checked_form_of (form.Index e axes) s scope ≡ check_form (ExprForm-F.Index (checked_expr e) (map checked_axis axes)) s scope
index_is e axes s scope =
    ap (λ f. checked_form_of f s scope) (sym (form.rolls-Index e axes))
    ∙ ap (λ check. check s scope) (fold-roll-ExprForm AxisCheck DomainCheck FormCheck Check check_axis check_domain check_form check_expr (ExprForm-F.Index e axes))

pub part_is : (e : Expr) (part : Part) (s : Span) (scope : Scope) → checked_form_of (form.Part e part) s scope ≡ check_form (ExprForm-F.Part (checked_expr e) part) s scope
part_is e part s scope =
    ap (λ f. checked_form_of f s scope) (sym (form.rolls-Part e part))
    ∙ ap (λ check. check s scope) (fold-roll-ExprForm AxisCheck DomainCheck FormCheck Check check_axis check_domain check_form check_expr (ExprForm-F.Part e part))

pub case_is : (arms : List (Expr × Expr)) (other : Expr) (s : Span) (scope : Scope)
    → checked_form_of (form.Case arms other) s scope ≡ check_form (ExprForm-F.Case (map (λ arm. (checked_expr arm.0, checked_expr arm.1)) arms) (checked_expr other)) s scope
case_is arms other s scope =
    ap (λ f. checked_form_of f s scope) (sym (form.rolls-Case arms other))
    ∙ ap (λ check. check s scope) (fold-roll-ExprForm AxisCheck DomainCheck FormCheck Check check_axis check_domain check_form check_expr (ExprForm-F.Case arms other))

pub build_is : (es : List Expr) (s : Span) (scope : Scope) → checked_form_of (form.Build es) s scope ≡ check_form (ExprForm-F.Build (map checked_expr es)) s scope
build_is es s scope =
    ap (λ f. checked_form_of f s scope) (sym (form.rolls-Build es))
    ∙ ap (λ check. check s scope) (fold-roll-ExprForm AxisCheck DomainCheck FormCheck Check check_axis check_domain check_form check_expr (ExprForm-F.Build es))

pub marray_is : (x : Spanned) (d : DomainExpr) (e : Expr) (s : Span) (scope : Scope)
    → checked_form_of (form.Marray x d e) s scope ≡ check_form (ExprForm-F.Marray x (checked_domain d) (checked_expr e)) s scope
marray_is x d e s scope =
    ap (λ f. checked_form_of f s scope) (sym (form.rolls-Marray x d e))
    ∙ ap (λ check. check s scope) (fold-roll-ExprForm AxisCheck DomainCheck FormCheck Check check_axis check_domain check_form check_expr (ExprForm-F.Marray x d e))

pub condense_is : (op : FoldOp) (x : Spanned) (d : DomainExpr) (cond : Option Expr) (e : Expr) (s : Span) (scope : Scope)
    → checked_form_of (form.Condense op x d cond e) s scope ≡ check_form (ExprForm-F.Condense op x (checked_domain d) (option_map checked_expr cond) (checked_expr e)) s scope
condense_is op x d None e s scope =
    ap (λ f. checked_form_of f s scope) (sym (form.rolls-Condense op x d None e))
    ∙ ap (λ check. check s scope) (fold-roll-ExprForm AxisCheck DomainCheck FormCheck Check check_axis check_domain check_form check_expr (ExprForm-F.Condense op x d None e))
condense_is op x d (Some cond) e s scope =
    ap (λ f. checked_form_of f s scope) (sym (form.rolls-Condense op x d (Some cond) e))
    ∙ ap (λ check. check s scope) (fold-roll-ExprForm AxisCheck DomainCheck FormCheck Check check_axis check_domain check_form check_expr (ExprForm-F.Condense op x d (Some cond) e))

pub cells_is : (f : CellsFold) (e : Expr) (s : Span) (scope : Scope) → checked_form_of (form.Cells f e) s scope ≡ check_form (ExprForm-F.Cells f (checked_expr e)) s scope
cells_is f e s scope =
    ap (λ f. checked_form_of f s scope) (sym (form.rolls-Cells f e))
    ∙ ap (λ check. check s scope) (fold-roll-ExprForm AxisCheck DomainCheck FormCheck Check check_axis check_domain check_form check_expr (ExprForm-F.Cells f e))

pub shift_is : (e : Expr) (offsets : List Expr) (s : Span) (scope : Scope)
    → checked_form_of (form.Shift e offsets) s scope ≡ check_form (ExprForm-F.Shift (checked_expr e) (map checked_expr offsets)) s scope
shift_is e offsets s scope =
    ap (λ f. checked_form_of f s scope) (sym (form.rolls-Shift e offsets))
    ∙ ap (λ check. check s scope) (fold-roll-ExprForm AxisCheck DomainCheck FormCheck Check check_axis check_domain check_form check_expr (ExprForm-F.Shift e offsets))

pub extend_is : (e : Expr) (d : DomainExpr) (s : Span) (scope : Scope)
    → checked_form_of (form.Extend e d) s scope ≡ check_form (ExprForm-F.Extend (checked_expr e) (checked_domain d)) s scope
extend_is e d s scope =
    ap (λ f. checked_form_of f s scope) (sym (form.rolls-Extend e d))
    ∙ ap (λ check. check s scope) (fold-roll-ExprForm AxisCheck DomainCheck FormCheck Check check_axis check_domain check_form check_expr (ExprForm-F.Extend e d))

pub concat_is : (parts : List Expr) (along : ℤ) (s : Span) (scope : Scope)
    → checked_form_of (form.Concat parts along) s scope ≡ check_form (ExprForm-F.Concat (map checked_expr parts) along) s scope
concat_is parts along s scope =
    ap (λ f. checked_form_of f s scope) (sym (form.rolls-Concat parts along))
    ∙ ap (λ check. check s scope) (fold-roll-ExprForm AxisCheck DomainCheck FormCheck Check check_axis check_domain check_form check_expr (ExprForm-F.Concat parts along))

pub sdom_is : (e : Expr) (s : Span) (scope : Scope) → checked_form_of (form.Sdom e) s scope ≡ check_form (ExprForm-F.«ExprForm::Sdom» (checked_expr e)) s scope
sdom_is e s scope =
    ap (λ f. checked_form_of f s scope) (sym (form.rolls-Sdom e))
    ∙ ap (λ check. check s scope) (fold-roll-ExprForm AxisCheck DomainCheck FormCheck Check check_axis check_domain check_form check_expr (ExprForm-F.«ExprForm::Sdom» e))

pub oid_is : (a : Spanned) (s : Span) (scope : Scope) → checked_form_of (form.Oid a) s scope ≡ check_form (ExprForm-F.Oid a) s scope
oid_is a s scope =
    ap (λ f. checked_form_of f s scope) (sym (form.rolls-Oid a))
    ∙ ap (λ check. check s scope) (fold-roll-ExprForm AxisCheck DomainCheck FormCheck Check check_axis check_domain check_form check_expr (ExprForm-F.Oid a))

pub at_is : (e : Expr) (scope : Scope) → checked_axis (axis.At e) scope ≡ check_axis (Axis-F.At (checked_expr e)) scope
at_is e scope =
    ap (λ f. checked_axis f scope) (sym (axis.rolls-At e)) ∙ ap (λ check. check scope)
    (fold-roll-Axis AxisCheck DomainCheck FormCheck Check check_axis check_domain check_form check_expr (Axis-F.At e))

pub trim_is : (a b : Option Expr) (scope : Scope) → checked_axis (axis.Trim a b) scope ≡ check_axis (Axis-F.Trim (option_map checked_expr a) (option_map checked_expr b)) scope
trim_is None None scope =
    ap (λ f. checked_axis f scope) (sym (axis.rolls-Trim None None))
    ∙ ap (λ check. check scope) (fold-roll-Axis AxisCheck DomainCheck FormCheck Check check_axis check_domain check_form check_expr (Axis-F.Trim None None))
trim_is None (Some b) scope =
    ap (λ f. checked_axis f scope) (sym (axis.rolls-Trim None (Some b)))
    ∙ ap (λ check. check scope) (fold-roll-Axis AxisCheck DomainCheck FormCheck Check check_axis check_domain check_form check_expr (Axis-F.Trim None (Some b)))
trim_is (Some a) None scope =
    ap (λ f. checked_axis f scope) (sym (axis.rolls-Trim (Some a) None))
    ∙ ap (λ check. check scope) (fold-roll-Axis AxisCheck DomainCheck FormCheck Check check_axis check_domain check_form check_expr (Axis-F.Trim (Some a) None))
trim_is (Some a) (Some b) scope =
    ap (λ f. checked_axis f scope) (sym (axis.rolls-Trim (Some a) (Some b)))
    ∙ ap (λ check. check scope) (fold-roll-Axis AxisCheck DomainCheck FormCheck Check check_axis check_domain check_form check_expr (Axis-F.Trim (Some a) (Some b)))

pub literal_is : (ps : List (Expr × Expr)) (scope : Scope) → checked_domain (domain.Literal ps) scope ≡ check_domain
    (DomainExpr-F.Literal (map (λ p. (checked_expr p.0, checked_expr p.1)) ps)) scope
literal_is ps scope =
    ap (λ f. checked_domain f scope) (sym (domain.rolls-Literal ps))
    ∙ ap (λ check. check scope) (fold-roll-DomainExpr AxisCheck DomainCheck FormCheck Check check_axis check_domain check_form check_expr (DomainExpr-F.Literal ps))

pub domain_sdom_is : (e : Expr) (scope : Scope) → checked_domain (domain.Sdom e) scope ≡ check_domain (DomainExpr-F.«DomainExpr::Sdom» (checked_expr e)) scope
domain_sdom_is e scope =
    ap (λ f. checked_domain f scope) (sym (domain.rolls-Sdom e))
    ∙ ap (λ check. check scope) (fold-roll-DomainExpr AxisCheck DomainCheck FormCheck Check check_axis check_domain check_form check_expr (DomainExpr-F.«DomainExpr::Sdom» e))

-- ---- trees

pub tree_is : (s : Span) (kind : Kind) (f : TypedForm) → tree_of (roll-TypedExpr (record { span = s; kind = kind; form = f })) ≡ node s kind (form_of f)
tree_is s kind f = fold-roll-TypedExpr (Axes → Axes) Domain Form Tree tree_axis tree_domain tree_form tree_expr (record { span = s; kind = kind; form = f })

pub tree_bool_is : (b : Bool) → form_of (typed.Bool b) ≡ tree_form (TypedForm-F.Bool b)
tree_bool_is b = ap form_of (sym (typed.rolls-Bool b)) ∙ fold-roll-TypedForm (Axes → Axes) Domain Form Tree tree_axis tree_domain tree_form tree_expr (TypedForm-F.Bool b)

pub tree_number_is : (z : ℤ) (atom : Atom) → form_of (typed.Number z atom) ≡ tree_form (TypedForm-F.Number z atom)
tree_number_is z atom =
    ap form_of (sym (typed.rolls-Number z atom)) ∙ fold-roll-TypedForm (Axes → Axes) Domain Form Tree tree_axis tree_domain tree_form tree_expr (TypedForm-F.Number z atom)

pub tree_iterator_is : (x : NameOf) (place : ℕ) → form_of (typed.Iterator x place) ≡ tree_form (TypedForm-F.Iterator x place)
tree_iterator_is x place =
    ap form_of (sym (typed.rolls-Iterator x place)) ∙ fold-roll-TypedForm (Axes → Axes) Domain Form Tree tree_axis tree_domain tree_form tree_expr (TypedForm-F.Iterator x place)

pub tree_variable_is : (x : NameOf) → form_of (typed.Variable x) ≡ tree_form (TypedForm-F.Variable x)
tree_variable_is x = ap form_of (sym (typed.rolls-Variable x)) ∙ fold-roll-TypedForm (Axes → Axes) Domain Form Tree tree_axis tree_domain tree_form tree_expr (TypedForm-F.Variable x)

pub tree_unary_is : (op : Op1) (e : TypedExpr) → form_of (typed.Unary op e) ≡ tree_form (TypedForm-F.Unary op (tree_of e))
tree_unary_is op e = ap form_of (sym (typed.rolls-Unary op e)) ∙ fold-roll-TypedForm (Axes → Axes) Domain Form Tree tree_axis tree_domain tree_form tree_expr (TypedForm-F.Unary op e)

pub tree_cast_is : (to : Atom) (e : TypedExpr) → form_of (typed.Cast to e) ≡ tree_form (TypedForm-F.Cast to (tree_of e))
tree_cast_is to e = ap form_of (sym (typed.rolls-Cast to e)) ∙ fold-roll-TypedForm (Axes → Axes) Domain Form Tree tree_axis tree_domain tree_form tree_expr (TypedForm-F.Cast to e)

pub tree_binary_is : (op : Op2) (a b : TypedExpr) → form_of (typed.Binary op a b) ≡ tree_form (TypedForm-F.Binary op (tree_of a) (tree_of b))
tree_binary_is op a b =
    ap form_of (sym (typed.rolls-Binary op a b)) ∙ fold-roll-TypedForm (Axes → Axes) Domain Form Tree tree_axis tree_domain tree_form tree_expr (TypedForm-F.Binary op a b)

pub tree_index_is : (e : TypedExpr) (axes : List TypedAxis) → form_of (typed.Index e axes) ≡ tree_form (TypedForm-F.Index (tree_of e) (map axis_tree axes))
tree_index_is e axes = ap form_of (sym (typed.rolls-Index e axes)) ∙ fold-roll-TypedForm (Axes → Axes) Domain Form Tree tree_axis tree_domain tree_form tree_expr (TypedForm-F.Index e axes)

pub tree_part_is : (e : TypedExpr) (part : Part) → form_of (typed.Part e part) ≡ tree_form (TypedForm-F.Part (tree_of e) part)
tree_part_is e part = ap form_of (sym (typed.rolls-Part e part)) ∙ fold-roll-TypedForm (Axes → Axes) Domain Form Tree tree_axis tree_domain tree_form tree_expr (TypedForm-F.Part e part)

pub tree_case_is : (arms : List (TypedExpr × TypedExpr)) (other : TypedExpr)
    → form_of (typed.Case arms other) ≡ tree_form (TypedForm-F.Case (map (λ arm. (tree_of arm.0, tree_of arm.1)) arms) (tree_of other))
tree_case_is arms other =
    ap form_of (sym (typed.rolls-Case arms other)) ∙ fold-roll-TypedForm (Axes → Axes) Domain Form Tree tree_axis tree_domain tree_form tree_expr (TypedForm-F.Case arms other)

pub tree_build_is : (es : List TypedExpr) → form_of (typed.Build es) ≡ tree_form (TypedForm-F.Build (map tree_of es))
tree_build_is es = ap form_of (sym (typed.rolls-Build es)) ∙ fold-roll-TypedForm (Axes → Axes) Domain Form Tree tree_axis tree_domain tree_form tree_expr (TypedForm-F.Build es)

pub tree_marray_is : (x : Spanned) (d : TypedDomain) (e : TypedExpr) → form_of (typed.Marray x d e) ≡ tree_form (TypedForm-F.Marray x (domain_tree d) (tree_of e))
tree_marray_is x d e = ap form_of (sym (typed.rolls-Marray x d e)) ∙ fold-roll-TypedForm (Axes → Axes) Domain Form Tree tree_axis tree_domain tree_form tree_expr (TypedForm-F.Marray x d e)

pub tree_condense_is : (op : FoldOp) (x : Spanned) (d : TypedDomain) (cond : Option TypedExpr) (e : TypedExpr)
    → form_of (typed.Condense op x d cond e) ≡ tree_form (TypedForm-F.Condense op x (domain_tree d) (option_map tree_of cond) (tree_of e))
tree_condense_is op x d None e =
    ap form_of (sym (typed.rolls-Condense op x d None e)) ∙ fold-roll-TypedForm (Axes → Axes) Domain Form Tree tree_axis tree_domain tree_form tree_expr (TypedForm-F.Condense op x d None e)
tree_condense_is op x d (Some cond) e =
    ap form_of (sym (typed.rolls-Condense op x d (Some cond) e))
    ∙ fold-roll-TypedForm (Axes → Axes) Domain Form Tree tree_axis tree_domain tree_form tree_expr (TypedForm-F.Condense op x d (Some cond) e)

pub tree_cells_is : (f : CellsFold) (e : TypedExpr) → form_of (typed.Cells f e) ≡ tree_form (TypedForm-F.Cells f (tree_of e))
tree_cells_is f e = ap form_of (sym (typed.rolls-Cells f e)) ∙ fold-roll-TypedForm (Axes → Axes) Domain Form Tree tree_axis tree_domain tree_form tree_expr (TypedForm-F.Cells f e)

pub tree_shift_is : (e : TypedExpr) (offsets : List TypedExpr) → form_of (typed.Shift e offsets) ≡ tree_form (TypedForm-F.Shift (tree_of e) (map tree_of offsets))
tree_shift_is e offsets =
    ap form_of (sym (typed.rolls-Shift e offsets)) ∙ fold-roll-TypedForm (Axes → Axes) Domain Form Tree tree_axis tree_domain tree_form tree_expr (TypedForm-F.Shift e offsets)

pub tree_extend_is : (e : TypedExpr) (d : TypedDomain) → form_of (typed.Extend e d) ≡ tree_form (TypedForm-F.Extend (tree_of e) (domain_tree d))
tree_extend_is e d = ap form_of (sym (typed.rolls-Extend e d)) ∙ fold-roll-TypedForm (Axes → Axes) Domain Form Tree tree_axis tree_domain tree_form tree_expr (TypedForm-F.Extend e d)

pub tree_concat_is : (parts : List TypedExpr) (along : ℤ) → form_of (typed.Concat parts along) ≡ tree_form (TypedForm-F.Concat (map tree_of parts) along)
tree_concat_is parts along =
    ap form_of (sym (typed.rolls-Concat parts along)) ∙ fold-roll-TypedForm (Axes → Axes) Domain Form Tree tree_axis tree_domain tree_form tree_expr (TypedForm-F.Concat parts along)

pub tree_sdom_is : (e : TypedExpr) → form_of (typed.Sdom e) ≡ tree_form (TypedForm-F.«TypedForm::Sdom» (tree_of e))
tree_sdom_is e = ap form_of (sym (typed.rolls-Sdom e)) ∙ fold-roll-TypedForm (Axes → Axes) Domain Form Tree tree_axis tree_domain tree_form tree_expr (TypedForm-F.«TypedForm::Sdom» e)

pub tree_oid_is : (a : Spanned) → form_of (typed.Oid a) ≡ tree_form (TypedForm-F.Oid a)
tree_oid_is a = ap form_of (sym (typed.rolls-Oid a)) ∙ fold-roll-TypedForm (Axes → Axes) Domain Form Tree tree_axis tree_domain tree_form tree_expr (TypedForm-F.Oid a)

pub tree_at_is : (e : TypedExpr) (rest : Axes) → axis_tree (taxis.At e) rest ≡ tree_axis (TypedAxis-F.At (tree_of e)) rest
tree_at_is e rest =
    ap (λ axis. axis_tree axis rest) (sym (taxis.rolls-At e))
    ∙ ap (λ after. after rest) (fold-roll-TypedAxis (Axes → Axes) Domain Form Tree tree_axis tree_domain tree_form tree_expr (TypedAxis-F.At e))

pub tree_trim_is : (a b : Option TypedExpr) (rest : Axes) → axis_tree (taxis.Trim a b) rest ≡ tree_axis (TypedAxis-F.Trim (option_map tree_of a) (option_map tree_of b)) rest
tree_trim_is None None rest =
    ap (λ axis. axis_tree axis rest) (sym (taxis.rolls-Trim None None))
    ∙ ap (λ after. after rest) (fold-roll-TypedAxis (Axes → Axes) Domain Form Tree tree_axis tree_domain tree_form tree_expr (TypedAxis-F.Trim None None))
tree_trim_is None (Some b) rest =
    ap (λ axis. axis_tree axis rest) (sym (taxis.rolls-Trim None (Some b)))
    ∙ ap (λ after. after rest) (fold-roll-TypedAxis (Axes → Axes) Domain Form Tree tree_axis tree_domain tree_form tree_expr (TypedAxis-F.Trim None (Some b)))
tree_trim_is (Some a) None rest =
    ap (λ axis. axis_tree axis rest) (sym (taxis.rolls-Trim (Some a) None))
    ∙ ap (λ after. after rest) (fold-roll-TypedAxis (Axes → Axes) Domain Form Tree tree_axis tree_domain tree_form tree_expr (TypedAxis-F.Trim (Some a) None))
tree_trim_is (Some a) (Some b) rest =
    ap (λ axis. axis_tree axis rest) (sym (taxis.rolls-Trim (Some a) (Some b)))
    ∙ ap (λ after. after rest) (fold-roll-TypedAxis (Axes → Axes) Domain Form Tree tree_axis tree_domain tree_form tree_expr (TypedAxis-F.Trim (Some a) (Some b)))

pub tree_literal_is : (ps : List (TypedExpr × TypedExpr)) → domain_tree (tdomain.Literal ps) ≡ tree_domain (TypedDomain-F.Literal (map (λ p. (tree_of p.0, tree_of p.1)) ps))
tree_literal_is ps =
    ap domain_tree (sym (tdomain.rolls-Literal ps)) ∙ fold-roll-TypedDomain (Axes → Axes) Domain Form Tree tree_axis tree_domain tree_form tree_expr (TypedDomain-F.Literal ps)

pub tree_domain_sdom_is : (e : TypedExpr) → domain_tree (tdomain.Sdom e) ≡ tree_domain (TypedDomain-F.«TypedDomain::Sdom» (tree_of e))
tree_domain_sdom_is e =
    ap domain_tree (sym (tdomain.rolls-Sdom e)) ∙ fold-roll-TypedDomain (Axes → Axes) Domain Form Tree tree_axis tree_domain tree_form tree_expr (TypedDomain-F.«TypedDomain::Sdom» e)

-- ---- all of them

pub ruleset form_equations = (
  expr_is,
  bool_is,
  number_is,
  name_is,
  unary_is,
  cast_is,
  binary_is,
  index_is,
  part_is,
  case_is,
  build_is,
  marray_is,
  condense_is,
  cells_is,
  shift_is,
  extend_is,
  concat_is,
  sdom_is,
  oid_is,
  at_is,
  trim_is,
  literal_is,
  domain_sdom_is,
  tree_is,
  tree_bool_is,
  tree_number_is,
  tree_iterator_is,
  tree_variable_is,
  tree_unary_is,
  tree_cast_is,
  tree_binary_is,
  tree_index_is,
  tree_part_is,
  tree_case_is,
  tree_build_is,
  tree_marray_is,
  tree_condense_is,
  tree_cells_is,
  tree_shift_is,
  tree_extend_is,
  tree_concat_is,
  tree_sdom_is,
  tree_oid_is,
  tree_at_is,
  tree_trim_is,
  tree_literal_is,
  tree_domain_sdom_is,
)
