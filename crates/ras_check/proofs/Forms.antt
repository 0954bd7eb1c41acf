-- What the walk gives of a form, from what it gives of the parts.
use Rattle.std.specs.Prelude.{◌≡◌, ℕ, ℤ, Bool, List, [], ◌∷◌, ◌++◌, map, option_map, Option, Some, None, true, Result, Ok, Err}
use Rattle.std.proofs.Common.{refl, ap, ◌∙◌, subst}
use Rattle.ras_cells.specs.Outcomes.{◌>>=◌}
use Rattle.ras_cells.specs.declared.atom.Atom.{Atom}
use Rattle.ras_cells.specs.declared.cell.CellType.TheVariants as types
use Rattle.ras_cells.specs.declared.numbers.Op1.{Op1}
use Rattle.ras_cells.specs.declared.numbers.Op2.{Op2}
use Rattle.ras_syntax.specs.declared.span.Span.{Span}
use Rattle.ras_syntax.specs.declared.span.Spanned.{Spanned}
use Rattle.ras_syntax.specs.declared.expr.Expr.{Expr, roll-Expr}
use Rattle.ras_syntax.specs.declared.expr.ExprForm.{ExprForm}
use Rattle.ras_syntax.specs.declared.expr.ExprForm.TheVariants as form
use Rattle.ras_syntax.specs.declared.expr.Axis.{Axis}
use Rattle.ras_syntax.specs.declared.expr.Axis.TheVariants as axis
use Rattle.ras_syntax.specs.declared.expr.DomainExpr.{DomainExpr}
use Rattle.ras_syntax.specs.declared.expr.DomainExpr.TheVariants as domain
use Rattle.ras_syntax.specs.declared.expr.Part.{Part}
use Rattle.ras_syntax.specs.declared.expr.FoldOp.{FoldOp}
use Rattle.ras_syntax.specs.declared.expr.CellsFold.{CellsFold}
use Rattle.ras_syntax.specs.declared.faults.CheckFault.{CheckFault}
use Rattle.ras_syntax.specs.declared.typed.Kind.{Kind}
use Rattle.ras_syntax.specs.declared.typed.Kind.TheVariants as kind
use Rattle.ras_syntax.specs.declared.typed.TypedExpr.{TypedExpr}
use Rattle.ras_syntax.specs.declared.typed.TypedAxis.{TypedAxis}
use Rattle.ras_syntax.specs.declared.typed.TypedAxis.TheVariants as taxis
use Rattle.ras_syntax.specs.declared.typed.TypedForm.TheVariants as typed
use Rattle.spec_expressions.specs.Tree.{NameOf, tree_of}
use Rattle.spec_expressions.specs.Kinds as kinds
use Rattle.spec_expressions.specs.Names.{Scope, source_named, variable_axes, with_variable}
use Rattle.spec_expressions.specs.Check as rules
use Rattle.spec_expressions.specs.Check.{CheckMisfit, CheckedDomain, checked_axis, checked_expr, checked_option, kind_of, kinds_of, tree_of_axes, typed_of}
use Rattle.spec_statements.proofs.CheckedForms as is
use Rattle.ras_catalog.specs.declared.fault.CheckError.{CheckError}
use Rattle.ras_catalog.specs.Outcome.{IsChecked, Joins, JoinsTwo, JoinsThree, JoinsFour, read_of_part, each_of}
use Rattle.ras_check.specs.Walk.{check_of_domain, check_of_form, checked_both, checked_maybe, checked_component, checked_oid}
use Rattle.ras_catalog.proofs.Joined.{joined, joined_two, joined_scope, joined_scopes}
use Rattle.ras_check.proofs.Listed.{all_is, axes_is, pairs_is}

-- what an expression, a list of them and the like came to
abbrev Came : Type 0 → Type 0
Came A = Result A CheckError

pub bool-walked : (b : Bool) (s : Span) (scope : Scope) {outcome : Came TypedExpr}
    → IsChecked (typed_of s (typed.Bool b) (Ok (kind.Scalar kinds.bool_type))) outcome
    → IsChecked (check_of_form (form.Bool b) s scope) outcome
bool-walked b s scope h0 = rw (is.bool_is b s scope) h0

pub number-walked : (z : ℤ) (atom : Atom) (s : Span) (scope : Scope) {outcome : Came TypedExpr}
    → IsChecked (typed_of s (typed.Number z atom) (Ok (kind.Scalar (types.Atom atom)))) outcome
    → IsChecked (check_of_form (form.Number z atom) s scope) outcome
number-walked z atom s scope h0 = rw (is.number_is z atom s scope) h0

pub name-walked : (name : NameOf) (s : Span) (scope : Scope) {outcome : Came TypedExpr}
    → IsChecked (rules.checked_name s name (variable_axes scope name) (source_named scope name)) outcome
    → IsChecked (check_of_form (form.Name name) s scope) outcome
name-walked name s scope h0 = rw (is.name_is name s scope) h0

pub unary-walked : (op : Op1) (e : Expr) (s : Span) (scope : Scope) {x : Came TypedExpr} {outcome : Came TypedExpr}
    → IsChecked (checked_expr e scope) x → Joins (λ y. typed_of s (typed.Unary op y) (kinds.unary_kind op (kind_of y))) x outcome
    → IsChecked (check_of_form (form.Unary op e) s scope) outcome
unary-walked op e s scope h0 h1 = rw (is.unary_is op e s scope) (joined (checked_expr e scope) (λ y. typed_of s (typed.Unary op y) (kinds.unary_kind op (kind_of y))) h0 h1)

pub cast-walked : (to : Atom) (e : Expr) (s : Span) (scope : Scope) {x : Came TypedExpr} {outcome : Came TypedExpr}
    → IsChecked (checked_expr e scope) x → Joins (λ y. typed_of s (typed.Cast to y) (kinds.cast_kind to (kind_of y))) x outcome
    → IsChecked (check_of_form (form.Cast to e) s scope) outcome
cast-walked to e s scope h0 h1 = rw (is.cast_is to e s scope) (joined (checked_expr e scope) (λ y. typed_of s (typed.Cast to y) (kinds.cast_kind to (kind_of y))) h0 h1)

pub part-walked : (e : Expr) (part : Part) (s : Span) (scope : Scope) {x : Came TypedExpr} {outcome : Came TypedExpr}
    → IsChecked (checked_expr e scope) x → Joins (checked_component scope.sources part s) x outcome
    → IsChecked (check_of_form (form.Part e part) s scope) outcome
part-walked e part s scope h0 h1 = rw (is.part_is e part s scope) (joined (checked_expr e scope) (checked_component scope.sources part s) h0 h1)

pub cells-walked : (f : CellsFold) (e : Expr) (s : Span) (scope : Scope) {x : Came TypedExpr} {outcome : Came TypedExpr}
    → IsChecked (checked_expr e scope) x → Joins (λ y. typed_of s (typed.Cells f y) (kinds.folded_kind f (kind_of y))) x outcome
    → IsChecked (check_of_form (form.Cells f e) s scope) outcome
cells-walked f e s scope h0 h1 = rw (is.cells_is f e s scope) (joined (checked_expr e scope) (λ y. typed_of s (typed.Cells f y) (kinds.folded_kind f (kind_of y))) h0 h1)

pub sdom-walked : (e : Expr) (s : Span) (scope : Scope) {x : Came TypedExpr} {outcome : Came TypedExpr}
    → IsChecked (checked_expr e scope) x → Joins (λ y. typed_of s (typed.Sdom y) (rules.sdom_kind (kind_of y))) x outcome
    → IsChecked (check_of_form (form.Sdom e) s scope) outcome
sdom-walked e s scope h0 h1 = rw (is.sdom_is e s scope) (joined (checked_expr e scope) (λ y. typed_of s (typed.Sdom y) (rules.sdom_kind (kind_of y))) h0 h1)

pub binary-walked : (op : Op2) (a : Expr) (b : Expr) (s : Span) (scope : Scope) {x : Came TypedExpr} {y : Came TypedExpr} {outcome : Came TypedExpr}
    → IsChecked (checked_expr a scope) x → IsChecked (checked_expr b scope) y → JoinsTwo (λ y z. typed_of s (typed.Binary op y z) (kinds.binary_kind op (kind_of y) (kind_of z))) x y outcome
    → IsChecked (check_of_form (form.Binary op a b) s scope) outcome
binary-walked op a b s scope h0 h1 h2 = rw (is.binary_is op a b s scope) (joined_two (checked_expr a scope) (checked_expr b scope)
    (λ y z. typed_of s (typed.Binary op y z) (kinds.binary_kind op (kind_of y) (kind_of z))) h0 h1 h2)

pub index-walked : (e : Expr) (axes : List Axis) (s : Span) (scope : Scope) {x : Came TypedExpr} {xs : Came (List TypedAxis)} {outcome : Came TypedExpr}
    → IsChecked (checked_expr e scope) x → IsChecked (each_of (λ axis. checked_axis axis scope) axes) xs → JoinsTwo
    (λ y ys. typed_of s (typed.Index y ys) (rules.index_kind (tree_of y) (tree_of_axes ys))) x xs outcome
    → IsChecked (check_of_form (form.Index e axes) s scope) outcome
index-walked e axes s scope h0 h1 h2 = rw (is.index_is e axes s scope, axes_is axes scope) (joined_two (checked_expr e scope) (each_of (λ axis. checked_axis axis scope) axes)
    (λ y ys. typed_of s (typed.Index y ys) (rules.index_kind (tree_of y) (tree_of_axes ys))) h0 h1 h2)

pub case-walked : (arms : List (Expr × Expr)) (e : Expr) (s : Span) (scope : Scope) {xs : Came (List (TypedExpr × TypedExpr))} {x : Came TypedExpr} {outcome : Came TypedExpr}
    → IsChecked (each_of (checked_both scope) arms) xs → IsChecked (checked_expr e scope) x → JoinsTwo (λ ys y. typed_of s (typed.Case ys y)
    (rules.choice_kind (map (λ arm. kind_of arm.0) ys) (map (λ arm. kind_of arm.1) ys ++ kind_of y ∷ []))) xs x outcome
    → IsChecked (check_of_form (form.Case arms e) s scope) outcome
case-walked arms e s scope h0 h1 h2 = rw (is.case_is arms e s scope, pairs_is arms scope) (joined_two (each_of (checked_both scope) arms) (checked_expr e scope)
    (λ ys y. typed_of s (typed.Case ys y) (rules.choice_kind (map (λ arm. kind_of arm.0) ys) (map (λ arm. kind_of arm.1) ys ++ kind_of y ∷ []))) h0 h1 h2)

pub build-walked : (es : List Expr) (s : Span) (scope : Scope) {xs : Came (List TypedExpr)} {outcome : Came TypedExpr}
    → IsChecked (each_of (λ e. checked_expr e scope) es) xs → Joins (λ ys. typed_of s (typed.Build ys) (kinds.composite_kind (kinds_of ys))) xs outcome
    → IsChecked (check_of_form (form.Build es) s scope) outcome
build-walked es s scope h0 h1 = rw (is.build_is es s scope, all_is es scope) (joined (each_of (λ e. checked_expr e scope) es)
    (λ ys. typed_of s (typed.Build ys) (kinds.composite_kind (kinds_of ys))) h0 h1)

pub concat-walked : (es : List Expr) (along : ℤ) (s : Span) (scope : Scope) {xs : Came (List TypedExpr)} {outcome : Came TypedExpr}
    → IsChecked (each_of (λ e. checked_expr e scope) es) xs → Joins (λ ys. typed_of s (typed.Concat ys along) (rules.concat_kind along (kinds_of ys))) xs outcome
    → IsChecked (check_of_form (form.Concat es along) s scope) outcome
concat-walked es along s scope h0 h1 = rw (is.concat_is es along s scope, all_is es scope) (joined (each_of (λ e. checked_expr e scope) es)
    (λ ys. typed_of s (typed.Concat ys along) (rules.concat_kind along (kinds_of ys))) h0 h1)

pub shift-walked : (e : Expr) (es : List Expr) (s : Span) (scope : Scope) {x : Came TypedExpr} {xs : Came (List TypedExpr)} {outcome : Came TypedExpr}
    → IsChecked (checked_expr e scope) x → IsChecked (each_of (λ e. checked_expr e scope) es) xs → JoinsTwo (λ y ys. typed_of s (typed.Shift y ys) (rules.shift_kind (kind_of y) ys)) x xs outcome
    → IsChecked (check_of_form (form.Shift e es) s scope) outcome
shift-walked e es s scope h0 h1 h2 = rw (is.shift_is e es s scope, all_is es scope) (joined_two (checked_expr e scope) (each_of (λ e. checked_expr e scope) es)
    (λ y ys. typed_of s (typed.Shift y ys) (rules.shift_kind (kind_of y) ys)) h0 h1 h2)

pub extend-walked : (e : Expr) (d : DomainExpr) (s : Span) (scope : Scope) {x : Came TypedExpr} {on : Came CheckedDomain} {outcome : Came TypedExpr}
    → IsChecked (checked_expr e scope) x → IsChecked (check_of_domain d scope) on → JoinsTwo (λ y on. typed_of s (typed.Extend y on.domain) (rules.extend_kind (kind_of y) on)) x on outcome
    → IsChecked (check_of_form (form.Extend e d) s scope) outcome
extend-walked e d s scope h0 h1 h2 = rw (is.extend_is e d s scope) (joined_two (checked_expr e scope) (check_of_domain d scope)
    (λ y on. typed_of s (typed.Extend y on.domain) (rules.extend_kind (kind_of y) on)) h0 h1 h2)

pub marray-walked : (v : Spanned) (d : DomainExpr) (e : Expr) (s : Span) (scope : Scope) {on : Came CheckedDomain} {axes : Came ℕ} {x : Came TypedExpr} {new : Came Spanned} {outcome : Came TypedExpr}
    → IsChecked (check_of_domain d scope) on → axes ≡ read_of_part (λ on. on.axes) on → Joins (λ n. checked_expr e (with_variable v.name n scope)) axes x → IsChecked
    (rules.new_name v scope) new → JoinsThree (λ on y new. typed_of s (typed.Marray new on.domain y) (rules.array_over on true (kinds.scalar_cell (kind_of y)))) on x new outcome
    → IsChecked (check_of_form (form.Marray v d e) s scope) outcome
marray-walked v d e s scope h0 h1 h2 h3 h4 = rw (is.marray_is v d e s scope) (joined_scope (λ on. on.axes) (check_of_domain d scope) (λ n. checked_expr e (with_variable v.name n scope))
    (rules.new_name v scope) (λ on y new. typed_of s (typed.Marray new on.domain y) (rules.array_over on true (kinds.scalar_cell (kind_of y)))) h0 h1 h2 h3 h4)

pub condense-walked : (op : FoldOp) (v : Spanned) (d : DomainExpr) (cond : Option Expr) (e : Expr) (s : Span) (scope : Scope) {on : Came CheckedDomain} {axes : Came ℕ} {more : Came ℕ}
    {t : Came (Option TypedExpr)} {x : Came TypedExpr} {new : Came Spanned} {outcome : Came TypedExpr}
    → IsChecked (check_of_domain d scope) on → axes ≡ read_of_part (λ on. on.axes) on → Joins (λ n. checked_maybe cond (with_variable v.name n scope)) axes t → more ≡ read_of_part
    (λ on. on.axes) on → Joins (λ n. checked_expr e (with_variable v.name n scope)) more x → IsChecked (rules.new_name v scope) new → JoinsFour
    (λ on test y new. typed_of s (typed.Condense op new on.domain test y) (rules.condense_kind op on test (kind_of y))) on t x new outcome
    → IsChecked (check_of_form (form.Condense op v d cond e) s scope) outcome
condense-walked op v d cond e s scope h0 h1 h2 h3 h4 h5 h6 = rw (is.condense_is op v d cond e s scope) (joined_scopes (λ on. on.axes) (check_of_domain d scope)
    (λ n. checked_maybe cond (with_variable v.name n scope)) (λ n. checked_expr e (with_variable v.name n scope)) (rules.new_name v scope)
    (λ on test y new. typed_of s (typed.Condense op new on.domain test y) (rules.condense_kind op on test (kind_of y))) h0 h1 h2 h3 h4 h5 h6)

pub oid-walked : (a : Spanned) (s : Span) (scope : Scope) {outcome : Came TypedExpr}
    → IsChecked (checked_oid a s scope) outcome
    → IsChecked (check_of_form (form.Oid a) s scope) outcome
oid-walked a s scope h0 = rw (is.oid_is a s scope) h0

pub at-walked : (e : Expr) (scope : Scope) {x : Came TypedExpr} {outcome : Came TypedAxis}
    → IsChecked (checked_expr e scope) x → Joins (λ y. Ok (taxis.At y)) x outcome
    → IsChecked (checked_axis (axis.At e) scope) outcome
at-walked e scope h0 h1 = rw (is.at_is e scope) (joined (checked_expr e scope) (λ y. Ok (taxis.At y)) h0 h1)

pub trim-walked : (a : Option Expr) (b : Option Expr) (scope : Scope) {x : Came (Option TypedExpr)} {y : Came (Option TypedExpr)} {outcome : Came TypedAxis}
    → IsChecked (checked_maybe a scope) x → IsChecked (checked_maybe b scope) y → JoinsTwo (λ x y. Ok (taxis.Trim x y)) x y outcome
    → IsChecked (checked_axis (axis.Trim a b) scope) outcome
trim-walked a b scope h0 h1 h2 = rw (is.trim_is a b scope) (joined_two (checked_maybe a scope) (checked_maybe b scope) (λ x y. Ok (taxis.Trim x y)) h0 h1 h2)

pub some-walked : (e : Expr) (scope : Scope) {x : Came TypedExpr} {outcome : Came (Option TypedExpr)}
    → IsChecked (checked_expr e scope) x → Joins (λ y. Ok (Some y)) x outcome
    → IsChecked (checked_maybe (Some e) scope) outcome
some-walked e scope h0 h1 = joined (checked_expr e scope) (λ y. Ok (Some y)) h0 h1

pub both-walked : (p : Expr × Expr) (scope : Scope) {x : Came TypedExpr} {y : Came TypedExpr} {outcome : Came (TypedExpr × TypedExpr)}
    → IsChecked (checked_expr p.0 scope) x → IsChecked (checked_expr p.1 scope) y → JoinsTwo (λ x y. Ok (x, y)) x y outcome
    → IsChecked (checked_both scope p) outcome
both-walked p scope h0 h1 h2 = joined_two (checked_expr p.0 scope) (checked_expr p.1 scope) (λ x y. Ok (x, y)) h0 h1 h2

pub literal-walked : (ps : List (Expr × Expr)) (scope : Scope) {xs : Came (List (TypedExpr × TypedExpr))} {outcome : Came CheckedDomain}
    → IsChecked (each_of (checked_both scope) ps) xs → Joins (λ ys. Ok (rules.literal_domain ys)) xs outcome
    → IsChecked (check_of_domain (domain.Literal ps) scope) outcome
literal-walked ps scope h0 h1 = rw (is.literal_is ps scope, pairs_is ps scope) (joined (each_of (checked_both scope) ps) (λ ys. Ok (rules.literal_domain ys)) h0 h1)

pub like-walked : (e : Expr) (scope : Scope) {x : Came TypedExpr} {outcome : Came CheckedDomain}
    → IsChecked (checked_expr e scope) x → Joins (λ y. rules.like_domain y (kind_of y)) x outcome
    → IsChecked (check_of_domain (domain.Sdom e) scope) outcome
like-walked e scope h0 h1 = rw (is.domain_sdom_is e scope) (joined (checked_expr e scope) (λ y. rules.like_domain y (kind_of y)) h0 h1)

-- the rule of a case, where its parts are given
pub case_joined : (span : Span) (arms : Came (List (TypedExpr × TypedExpr))) (other : Came TypedExpr) (as_ : List (TypedExpr × TypedExpr)) (o : TypedExpr)
    (slice : List (TypedExpr × TypedExpr)) (got : TypedExpr) (rule : Result Kind CheckFault) (outcome : Came TypedExpr)
    → arms ≡ Ok as_ → other ≡ Ok o → slice ≡ as_ → got ≡ o
    → rule ≡ rules.choice_kind (map (λ arm. kind_of arm.0) slice) (map (λ arm. kind_of arm.1) slice ++ kind_of got ∷ [])
    → IsChecked (typed_of span (typed.Case as_ o) rule) outcome
    → JoinsTwo (λ ys y. typed_of span (typed.Case ys y) (rules.choice_kind (map (λ arm. kind_of arm.0) ys) (map (λ arm. kind_of arm.1) ys ++ kind_of y ∷ []))) arms other outcome
case_joined span arms other as_ o slice got rule outcome ea eo es eg er h =
    let kinds_are : rule ≡ rules.choice_kind (map (λ arm. kind_of arm.0) as_) (map (λ arm. kind_of arm.1) as_ ++ kind_of o ∷ []) =
    er ∙ ap (λ xs. rules.choice_kind (map (λ arm. kind_of arm.0) xs) (map (λ arm. kind_of arm.1) xs ++ kind_of got ∷ [])) es
    ∙ ap (λ x. rules.choice_kind (map (λ arm. kind_of arm.0) as_) (map (λ arm. kind_of arm.1) as_ ++ kind_of x ∷ [])) eg in
    rw (ea, eo) (record { goes_on = subst (λ r. IsChecked (typed_of span (typed.Case as_ o) r) outcome) kinds_are h })
