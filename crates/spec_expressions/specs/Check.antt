-- The check of an expression: the expression with its kinds, or the first fault in the order of the text, parts before the
-- whole. Of several faults of one expression, the one that stands first in the list of check faults comes first.
use Rattle.std.specs.Prelude.{ℕ, ◌==◌, nat_le, ℤ, pos, unsigned_abs, int_lt, int_le, Bool, true, ◌&&◌, ◌||◌, if◌then◌else◌, List, [], ◌∷◌, ◌++◌, length, map, slice_get, Option, Some, None, Result, Ok, Err, codes}
use Rattle.std.specs.List.{list_all}
use Rattle.ras_cells.specs.declared.atom.Atom.{Atom}
use Rattle.ras_cells.specs.declared.cell.CellType.{CellType}
use Rattle.ras_cells.specs.declared.cell.CellType.TheVariants as types
use Rattle.ras_cells.specs.Outcomes.{◌>>=◌}
use Rattle.ras_domain.specs.declared.TheConstants.{MAX_AXES}
use Rattle.ras_syntax.specs.declared.span.Span.{Span}
use Rattle.ras_syntax.specs.declared.span.Spanned.{Spanned}
use Rattle.ras_syntax.specs.declared.expr.Expr.{Expr, fold-Expr}
use Rattle.ras_syntax.specs.declared.expr.Axis.{Axis, fold-Axis}
use Rattle.ras_syntax.specs.declared.expr.Axis.TheOpen.{Expr-F, ExprForm-F, Axis-F, DomainExpr-F}
use Rattle.ras_syntax.specs.declared.expr.Part.{Part}
use Rattle.ras_syntax.specs.declared.expr.Part.TheVariants.{Named, Numbered}
use Rattle.ras_syntax.specs.declared.expr.FoldOp.{FoldOp}
use Rattle.ras_syntax.specs.declared.faults.CheckFault.{CheckFault}
use Rattle.ras_syntax.specs.declared.faults.CheckFault.TheVariants.{NoIterator, DoubleName, NoComponent, TypeMismatch}
use Rattle.ras_syntax.specs.declared.typed.Kind.{Kind}
use Rattle.ras_syntax.specs.declared.typed.Kind.TheVariants as kinds
use Rattle.ras_syntax.specs.declared.typed.CheckedSource.{CheckedSource}
use Rattle.ras_syntax.specs.declared.typed.TypedExpr.{TypedExpr, roll-TypedExpr, out-TypedExpr}
use Rattle.ras_syntax.specs.declared.typed.TypedAxis.{TypedAxis, fold-TypedAxis}
use Rattle.ras_syntax.specs.declared.typed.TypedAxis.TheVariants as taxis
use Rattle.ras_syntax.specs.declared.typed.TypedDomain.{TypedDomain}
use Rattle.ras_syntax.specs.declared.typed.TypedDomain.TheVariants as tdomain
use Rattle.ras_syntax.specs.declared.typed.TypedForm.{TypedForm}
use Rattle.ras_syntax.specs.declared.typed.TypedForm.TheVariants as typed
use Rattle.spec_expressions.specs.Tree.{is_same_name, NameOf, Tree, Form, Axes, Edge, Domain, node, number, domain_of, interval_of, no_axes, position, trim, own, edge, tree_of, axes_of, axis_tree_step, domain_tree_step, form_tree_step, expr_tree_step}
use Rattle.spec_expressions.specs.Shape.{is_static}
use Rattle.spec_expressions.specs.Kinds.{wide_type, bool_type, on_cells, on_scalar, scalar_cell, is_given, is_scalar_number, is_scalar_bool, axes_of_kind, all_equal, axes_of_arrays, by_rules, common_kind, unary_kind, cast_kind, binary_kind, join_of_all, choice_type, composite_kind, folded_kind, fold_type, array_cell}
use Rattle.spec_expressions.specs.Names.{Scope, with_variable, variable_axes, source_named, is_in_scope, place_among, names_of}

-- a fault with its place in the text
abbrev pub CheckMisfit : Type 0
CheckMisfit = Span × CheckFault

-- a rule's outcome at the place of the expression that it speaks of
abbrev pub placed_at : {A : Type 0} → Span → Result A CheckFault → Result A CheckMisfit
placed_at span (Ok a) = Ok a
placed_at span (Err fault) = Err (span, fault)

-- what a look-up found, else the fault
abbrev pub found_at : {A : Type 0} → Span → CheckFault → Option A → Result A CheckMisfit
found_at span fault (Some a) = Ok a
found_at span fault None = Err (span, fault)

-- what an expression is in a scope
abbrev pub Check : Type 0
Check = Scope → Result TypedExpr CheckMisfit

-- what a form is as the expression of this span
abbrev pub FormCheck : Type 0
FormCheck = Span → Check

abbrev pub kind_of : TypedExpr → Kind
kind_of e = (out-TypedExpr e).kind

abbrev pub kinds_of : List TypedExpr → List Kind
kinds_of es = map kind_of es

-- the expression of this kind and form, where the rule gives a kind
abbrev pub typed_of : Span → TypedForm → Result Kind CheckFault → Result TypedExpr CheckMisfit
typed_of span form rule = do
  kind ← placed_at span rule
  Ok (roll-TypedExpr (record { span = span; kind = kind; form = form }))

-- ---- lists of parts, from left to right

abbrev pub checked_all : List Check → Scope → Result (List TypedExpr) CheckMisfit
checked_all [] scope = Ok []
checked_all (e ∷ es) scope = do
  x ← e scope
  xs ← checked_all es scope
  Ok (x ∷ xs)

abbrev pub checked_pairs : List (Check × Check) → Scope → Result (List (TypedExpr × TypedExpr)) CheckMisfit
checked_pairs [] scope = Ok []
checked_pairs (pair ∷ more) scope = do
  x ← pair.0 scope
  y ← pair.1 scope
  xs ← checked_pairs more scope
  Ok ((x, y) ∷ xs)

abbrev pub checked_option : Option Check → Scope → Result (Option TypedExpr) CheckMisfit
checked_option None scope = Ok None
checked_option (Some e) scope = do
  x ← e scope
  Ok (Some x)

abbrev pub checked_axes : List (Scope → Result TypedAxis CheckMisfit) → Scope → Result (List TypedAxis) CheckMisfit
checked_axes [] scope = Ok []
checked_axes (axis ∷ axes) scope = do
  x ← axis scope
  xs ← checked_axes axes scope
  Ok (x ∷ xs)

-- ---- names

abbrev pub iterator_kind : CheckedSource → Kind
iterator_kind source = kinds.Array source.of.cell (length source.of.bounds.items)

-- a variable stands before an iterator of its name
abbrev pub checked_name : Span → NameOf → Option ℕ → Option (ℕ × CheckedSource) → Result TypedExpr CheckMisfit
checked_name span name (Some axes) source = typed_of span (typed.Variable name) (Ok (kinds.Point axes))
checked_name span name None (Some found) = typed_of span (typed.Iterator name found.0) (Ok (iterator_kind found.1))
checked_name span name None None = Err (span, NoIterator)

-- a variable has no object identifier
abbrev pub oid_kind : Option ℕ → Option (ℕ × CheckedSource) → Result Kind CheckFault
oid_kind None (Some found) = Ok (kinds.Scalar wide_type)
oid_kind variable source = Err NoIterator

-- the name of a new variable isn't in scope
abbrev pub new_name : Spanned → Scope → Result Spanned CheckMisfit
new_name x scope = if is_in_scope scope x.name then Err (x.span, DoubleName) else Ok x

-- ---- axes of an index or of a target

abbrev pub tree_of_axes : List TypedAxis → Axes
tree_of_axes axes = axes_of (map (fold-TypedAxis (Axes → Axes) Domain Form Tree axis_tree_step domain_tree_step form_tree_step expr_tree_step) axes)

abbrev pub is_number_tree : Tree → Bool
is_number_tree (node span kind form) = is_scalar_number kind

-- what holds of the bound, * counting as one
abbrev pub on_edge : (Tree → Bool) → Edge → Bool
on_edge holds own = true
on_edge holds (edge e) = holds e

-- each position has the first, and each bound the second
abbrev pub on_axes : (Tree → Bool) → (Tree → Bool) → Axes → Bool
on_axes at bound no_axes = true
on_axes at bound (position e axes) = at e && on_axes at bound axes
on_axes at bound (trim a b axes) = on_edge bound a && (on_edge bound b && on_axes at bound axes)

abbrev pub are_numbers : Axes → Bool
are_numbers = on_axes is_number_tree is_number_tree

abbrev pub bounds_are_static : Axes → Bool
bounds_are_static = on_axes (λ e. true) is_static

abbrev pub all_are_static : Axes → Bool
all_are_static = on_axes is_static is_static

abbrev pub count_of : Axes → ℕ
count_of no_axes = 0
count_of (position e axes) = ℕ.suc (count_of axes)
count_of (trim a b axes) = ℕ.suc (count_of axes)

-- a position removes its axis, and a trim keeps it
abbrev pub kept_of : Axes → ℕ
kept_of no_axes = 0
kept_of (position e axes) = kept_of axes
kept_of (trim a b axes) = ℕ.suc (kept_of axes)

abbrev pub array_or_scalar_kind : CellType → ℕ → Kind
array_or_scalar_kind cell axes = if axes == 0 then kinds.Scalar cell else kinds.Array cell axes

abbrev pub cut_kind : CellType → ℕ → Axes → Result Kind CheckFault
cut_kind cell n axes =
    by_rules (are_numbers axes) (count_of axes == n) (bounds_are_static axes) (array_or_scalar_kind cell (kept_of axes))

-- e[x] of a variable with as many axes as e, and e[axes]
abbrev pub element_kind : CellType → ℕ → Axes → Result Kind CheckFault
element_kind cell n (position (node span (kinds.Point m) form) no_axes) = by_rules true (m == n) true (kinds.Scalar cell)
element_kind cell n axes = cut_kind cell n axes

abbrev pub is_axis : ℤ → ℕ → Bool
is_axis k n = int_le (pos 0) k && int_lt k (pos n)

-- one axis, named by a literal
abbrev pub on_axis : Kind → ℕ → Axes → Result Kind CheckFault
on_axis kind n (position (node span k (number z atom)) no_axes) = by_rules true (is_axis z n) true kind
on_axis kind n axes = Err TypeMismatch

-- x[k] of a variable, sdom(e)[k], and an index of an array. sdom(e)[k] is a domain of one axis, and has no index itself
abbrev pub index_kind : Tree → Axes → Result Kind CheckFault
index_kind (node span (kinds.Point n) form) axes = on_axis (kinds.Scalar wide_type) n axes
index_kind (node span (kinds.Domain n) (domain_of e)) axes = on_axis (kinds.Domain 1) n axes
index_kind (node span (kinds.Array cell n) form) axes = element_kind cell n axes
index_kind e axes = Err TypeMismatch

-- ---- components

abbrev pub atom_type : Option Atom → Option CellType
atom_type None = None
atom_type (Some atom) = Some (types.Atom atom)

-- the type of a component, counted from 0
abbrev pub component_type : ℤ → CellType → Option CellType
component_type k (types.Atom atom) = None
component_type k (types.Composite atoms) = atom_type (if int_lt k (pos 0) then None else slice_get atoms.items (unsigned_abs k))

-- the same kind, of other cells
abbrev pub with_cell : CellType → Kind → Kind
with_cell cell (kinds.Array old axes) = kinds.Array cell axes
with_cell cell other = kinds.Scalar cell

-- a component by its number; what has no components has none of any number
abbrev pub component_kind : Kind → ℤ → Option CellType → Result (Kind × Part) CheckFault
component_kind kind k None = Err NoComponent
component_kind kind k (Some cell) = Ok (with_cell cell kind, Numbered k)

abbrev pub numbered_part : Kind → ℤ → Result (Kind × Part) CheckFault
numbered_part kind k = component_kind kind k (on_cells (component_type k) kind)

abbrev pub named_part : Kind → Option ℕ → Result (Kind × Part) CheckFault
named_part kind None = Err NoComponent
named_part kind (Some place) = numbered_part kind (pos place)

abbrev pub is_bound_name : NameOf → Bool
is_bound_name name = is_same_name name (codes "lo") || is_same_name name (codes "hi")

-- the kind of e.part, and the part with its number; of sdom(e)[k] there are .lo and .hi
abbrev pub part_kind : List CheckedSource → Tree → Part → Result (Kind × Part) CheckFault
part_kind sources (node span kind (interval_of e k)) (Named name) =
    if is_bound_name name then Ok (kinds.Scalar wide_type, Named name) else Err NoComponent
part_kind sources (node span kind form) (Named name) = named_part kind (place_among name (names_of sources (node span kind form)))
part_kind sources (node span kind form) (Numbered k) = numbered_part kind k

-- ---- domains

-- a domain with its number of axes. What it breaks of its own is a fault of the expression that it stands in: whether its
-- bounds are scalar numbers, and whether they are static
pub record CheckedDomain : Type 0 where
  pub domain : TypedDomain
  pub axes : ℕ
  pub has_numbers : Bool
  pub is_fixed : Bool

abbrev pub has_number_bounds : TypedExpr × TypedExpr → Bool
has_number_bounds ends = is_scalar_number (kind_of ends.0) && is_scalar_number (kind_of ends.1)

abbrev pub has_static_bounds : TypedExpr × TypedExpr → Bool
has_static_bounds ends = is_static (tree_of ends.0) && is_static (tree_of ends.1)

abbrev pub literal_domain : List (TypedExpr × TypedExpr) → CheckedDomain
literal_domain pairs = record { domain = tdomain.Literal pairs; axes = length pairs; has_numbers = list_all has_number_bounds pairs; is_fixed = list_all has_static_bounds pairs }

-- sdom(e), which is an expression with its own place: of what is no domain it is a mismatch there
abbrev pub like_domain : TypedExpr → Kind → Result CheckedDomain CheckMisfit
like_domain e (kinds.Domain axes) = Ok (record { domain = tdomain.Sdom e; axes = axes; has_numbers = true; is_fixed = true })
like_domain e other = Err ((out-TypedExpr e).span, TypeMismatch)

abbrev pub has_few_axes : CheckedDomain → Bool
has_few_axes domain = nat_le domain.axes MAX_AXES

-- an array of these cells on the domain
abbrev pub array_over : CheckedDomain → Bool → Option CellType → Result Kind CheckFault
array_over domain axes_fit None = Err TypeMismatch
array_over domain axes_fit (Some cell) =
    by_rules domain.has_numbers (has_few_axes domain && axes_fit) domain.is_fixed (kinds.Array cell domain.axes)

-- a scalar made over the domain
abbrev pub scalar_over : CheckedDomain → Option CellType → Result Kind CheckFault
scalar_over domain None = Err TypeMismatch
scalar_over domain (Some cell) = by_rules domain.has_numbers (has_few_axes domain) domain.is_fixed (kinds.Scalar cell)

-- ---- the rules of the other forms

-- the conditions and the branches of a case
abbrev pub choice_kind : List Kind → List Kind → Result Kind CheckFault
choice_kind conditions branches = common_kind (choice_type conditions branches) (conditions ++ branches)

-- a condition of a condense is missing, or a scalar bool
abbrev pub is_test : Option TypedExpr → Bool
is_test None = true
is_test (Some c) = is_scalar_bool (kind_of c)

abbrev pub condense_kind : FoldOp → CheckedDomain → Option TypedExpr → Kind → Result Kind CheckFault
condense_kind op domain condition e =
    if is_test condition then scalar_over domain (on_scalar (fold_type op) e) else Err TypeMismatch

-- there is one offset for each axis
abbrev pub shift_kind : Kind → List TypedExpr → Result Kind CheckFault
shift_kind (kinds.Array cell axes) offsets =
    by_rules (list_all (λ e. is_scalar_number (kind_of e)) offsets) (length offsets == axes) (list_all (λ e. is_static (tree_of e)) offsets) (kinds.Array cell axes)
shift_kind other offsets = Err TypeMismatch

abbrev pub extend_kind : Kind → CheckedDomain → Result Kind CheckFault
extend_kind e domain = array_over domain (domain.axes == axes_of_kind e) (array_cell e)

abbrev pub is_array : Kind → Bool
is_array kind = is_given (array_cell kind)

abbrev pub joined_arrays : ℤ → List ℕ → Option CellType → Result Kind CheckFault
joined_arrays along [] cell = Err TypeMismatch
joined_arrays along (n ∷ ns) None = Err TypeMismatch
joined_arrays along (n ∷ ns) (Some cell) = by_rules true (all_equal (n ∷ ns) && is_axis along n) true (kinds.Array cell n)

-- the parts are arrays with equally many axes and a common type, and the axis is one of theirs
abbrev pub concat_kind : ℤ → List Kind → Result Kind CheckFault
concat_kind along parts =
    if list_all is_array parts then joined_arrays along (axes_of_arrays parts) (join_of_all parts) else Err TypeMismatch

abbrev pub sdom_kind : Kind → Result Kind CheckFault
sdom_kind (kinds.Array cell axes) = Ok (kinds.Domain axes)
sdom_kind other = Err TypeMismatch

-- ---- expressions

abbrev pub AxisCheck : Type 0
AxisCheck = Scope → Result TypedAxis CheckMisfit

abbrev pub DomainCheck : Type 0
DomainCheck = Scope → Result CheckedDomain CheckMisfit

abbrev pub check_axis : Axis-F AxisCheck DomainCheck FormCheck Check → AxisCheck
check_axis (Axis-F.At e) scope = do
  x ← e scope
  Ok (taxis.At x)
check_axis (Axis-F.Trim a b) scope = do
  x ← checked_option a scope
  y ← checked_option b scope
  Ok (taxis.Trim x y)

abbrev pub check_domain : DomainExpr-F AxisCheck DomainCheck FormCheck Check → DomainCheck
check_domain (DomainExpr-F.Literal ps) scope = do
  xs ← checked_pairs ps scope
  Ok (literal_domain xs)
check_domain (DomainExpr-F.«DomainExpr::Sdom» e) scope = do
  x ← e scope
  like_domain x (kind_of x)

abbrev pub check_form : ExprForm-F AxisCheck DomainCheck FormCheck Check → FormCheck
check_form (ExprForm-F.Bool b) span scope = typed_of span (typed.Bool b) (Ok (kinds.Scalar bool_type))
check_form (ExprForm-F.Number value atom) span scope = typed_of span (typed.Number value atom) (Ok (kinds.Scalar (types.Atom atom)))
check_form (ExprForm-F.Name name) span scope = checked_name span name (variable_axes scope name) (source_named scope name)
check_form (ExprForm-F.Unary op e) span scope = do
  x ← e scope
  typed_of span (typed.Unary op x) (unary_kind op (kind_of x))
check_form (ExprForm-F.Cast to e) span scope = do
  x ← e scope
  typed_of span (typed.Cast to x) (cast_kind to (kind_of x))
check_form (ExprForm-F.Binary op a b) span scope = do
  x ← a scope
  y ← b scope
  typed_of span (typed.Binary op x y) (binary_kind op (kind_of x) (kind_of y))
check_form (ExprForm-F.Index e axes) span scope = do
  x ← e scope
  xs ← checked_axes axes scope
  typed_of span (typed.Index x xs) (index_kind (tree_of x) (tree_of_axes xs))
check_form (ExprForm-F.Part e part) span scope = do
  x ← e scope
  found ← placed_at span (part_kind scope.sources (tree_of x) part)
  typed_of span (typed.Part x found.1) (Ok found.0)
check_form (ExprForm-F.Case arms other) span scope = do
  xs ← checked_pairs arms scope
  x ← other scope
  typed_of span (typed.Case xs x) (choice_kind (map (λ arm. kind_of arm.0) xs) (map (λ arm. kind_of arm.1) xs ++ kind_of x ∷ []))
check_form (ExprForm-F.Build es) span scope = do
  xs ← checked_all es scope
  typed_of span (typed.Build xs) (composite_kind (kinds_of xs))
-- the variable is in scope in the body alone, and there it is the inner one. Its name and what a literal breaks of its own
-- are looked at after the parts
check_form (ExprForm-F.Marray x domain e) span scope = do
  on ← domain scope
  inner ← e (with_variable x.name on.axes scope)
  new ← new_name x scope
  typed_of span (typed.Marray new on.domain inner) (array_over on true (scalar_cell (kind_of inner)))
-- the same with the condition, which stands before the body
check_form (ExprForm-F.Condense op x domain cond e) span scope = do
  on ← domain scope
  test ← checked_option cond (with_variable x.name on.axes scope)
  inner ← e (with_variable x.name on.axes scope)
  new ← new_name x scope
  typed_of span (typed.Condense op new on.domain test inner) (condense_kind op on test (kind_of inner))
check_form (ExprForm-F.Cells f e) span scope = do
  x ← e scope
  typed_of span (typed.Cells f x) (folded_kind f (kind_of x))
check_form (ExprForm-F.Shift e offsets) span scope = do
  x ← e scope
  xs ← checked_all offsets scope
  typed_of span (typed.Shift x xs) (shift_kind (kind_of x) xs)
check_form (ExprForm-F.Extend e domain) span scope = do
  x ← e scope
  on ← domain scope
  typed_of span (typed.Extend x on.domain) (extend_kind (kind_of x) on)
check_form (ExprForm-F.Concat parts along) span scope = do
  xs ← checked_all parts scope
  typed_of span (typed.Concat xs along) (concat_kind along (kinds_of xs))
check_form (ExprForm-F.«ExprForm::Sdom» e) span scope = do
  x ← e scope
  typed_of span (typed.Sdom x) (sdom_kind (kind_of x))
-- the place of the fault is the name's
check_form (ExprForm-F.Oid a) span scope = do
  kind ← placed_at a.span (oid_kind (variable_axes scope a.name) (source_named scope a.name))
  typed_of span (typed.Oid a) (Ok kind)

abbrev pub check_expr : Expr-F AxisCheck DomainCheck FormCheck Check → Check
check_expr e scope = e.form e.span scope

abbrev pub checked_expr : Expr → Check
checked_expr = fold-Expr AxisCheck DomainCheck FormCheck Check check_axis check_domain check_form check_expr

abbrev pub checked_axis : Axis → AxisCheck
checked_axis = fold-Axis AxisCheck DomainCheck FormCheck Check check_axis check_domain check_form check_expr
