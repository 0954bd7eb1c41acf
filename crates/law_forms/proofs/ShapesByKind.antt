-- The shape that an expression of some kind has.
use Rattle.std.proofs.Common.{◌≡◌, ℕ, zero, suc, ◌<◌, ℤ, pos, negsuc, true, Some, List, [], ◌∷◌, length, inl, inr, refl, sym, ap, subst, ◌∙◌, arith}
use Rattle.std.specs.Prelude.{◌&&◌, ◌⊎◌, Ok, int_le, int_lt, slice_get, unsigned_abs}
use Rattle.std.proofs.lemmas.Bool.{and_parts, false≢true, ltb-true}
use Rattle.ras_cells.specs.declared.cell.CellType.{CellType}
use Rattle.ras_cells.specs.Outcomes.{◌>>=◌}
use Rattle.ras_domain.specs.declared.region.Interval.{Interval}
use Rattle.ras_syntax.specs.declared.typed.Kind.{Kind}
use Rattle.ras_syntax.specs.declared.typed.Kind.TheVariants.{Scalar, Array, Domain as DomainKind, Point}
use Rattle.ras_syntax.specs.declared.typed.CheckedSource.{CheckedSource}
use Rattle.spec_expressions.specs.Tree.{Tree, Trees, Pairs, Axes, Edge, Condition, node, no_trees, trees, no_pairs, pairs, no_axes, position, trim, own, edge, always, only_where}
use Rattle.spec_expressions.specs.Kinds.{axes_of_kind, is_scalar_bool, is_scalar_number}
use Rattle.spec_expressions.specs.Check.{are_numbers, count_of, is_axis, is_number_tree, on_edge}
use Rattle.spec_expressions.specs.WellTyped.{Variables, IsWellTyped, AreWellTyped, AreWellTypedPairs, AreWellTypedAxes, IsWellTypedEdge, IsWellTypedCondition, all_pairs, all_trees, kind_in}
use Rattle.spec_expressions.specs.Shape.{Box, Shape, scalar, array, box, box_of, Bound, Cut, bounds_of, condition_shape, cuts_of, edge_value, is_static, offsets_of, position_cut, shape_of, static_of, trim_cut}
use Rattle.spec_expressions.specs.Fits.{AreDomainsOf, IsShapeOf}
use Rattle.law_shapes.proofs.Agree.{shape-agrees}
use Rattle.law_shapes.proofs.Operands.{IsPartOf}
use Rattle.law_shapes.proofs.Outcomes.{bind_ok}
use Rattle.law_shapes.proofs.Rules.{HasCells}
use Rattle.law_forms.specs.FormShapes.{IsOneCell, IsArrayOn, IsOperandIn, HaveOneCell, PairsHaveOneCell, EdgeHasOneCell, AxesHaveOneCell, ConditionHasOneCell}

-- ---- one shape

array-fits : (cell : CellType) (n : ℕ) (x : Shape) → IsShapeOf (Array cell n) x → (x ≡ array (box_of x)) × (length (box_of x) ≡ n)
array-fits cell n scalar fits = absurd fits
array-fits cell n (array axes) fits = (refl, fits.0)
array-fits cell n (box axes) fits = absurd fits

scalar-fits : (cell : CellType) (x : Shape) → IsShapeOf (Scalar cell) x → x ≡ scalar
scalar-fits cell scalar fits = refl
scalar-fits cell (array axes) fits = absurd fits
scalar-fits cell (box axes) fits = absurd fits

domain-fits : (n : ℕ) (x : Shape) → IsShapeOf (DomainKind n) x → x ≡ box (box_of x)
domain-fits n scalar fits = absurd fits
domain-fits n (array axes) fits = absurd fits
domain-fits n (box axes) fits = refl

-- ---- one expression

-- an array has a box
pub array-on : (sources : List CheckedSource) (variables : Variables) (domains : List Box) (e : Tree) (cell : CellType) (n : ℕ) (x : Shape)
    → IsWellTyped sources variables e → AreDomainsOf sources domains → kind_in e ≡ Array cell n → shape_of domains e ≡ Ok x → IsArrayOn domains e (box_of x)
array-on sources variables domains e cell n x typed fits kind_is is =
    let fit = array-fits cell n x (subst (λ k. IsShapeOf k x) kind_is (shape-agrees sources variables domains e x typed fits is)) in
    record { shape_is = is ∙ ap (λ s. Ok s) fit.0; count = fit.1 ∙ sym (ap axes_of_kind kind_is) }

-- a scalar has one cell
pub one-cell : (sources : List CheckedSource) (variables : Variables) (domains : List Box) (e : Tree) (cell : CellType) (x : Shape)
    → IsWellTyped sources variables e → AreDomainsOf sources domains → kind_in e ≡ Scalar cell → shape_of domains e ≡ Ok x → IsOneCell domains e
one-cell sources variables domains e cell x typed fits kind_is is =
    is ∙ ap (λ s. Ok s) (scalar-fits cell x (subst (λ k. IsShapeOf k x) kind_is (shape-agrees sources variables domains e x typed fits is)))

-- a domain is a box
pub domain-on : (sources : List CheckedSource) (variables : Variables) (domains : List Box) (e : Tree) (n : ℕ) (x : Shape)
    → IsWellTyped sources variables e → AreDomainsOf sources domains → kind_in e ≡ DomainKind n → shape_of domains e ≡ Ok x → shape_of domains e ≡ Ok (box (box_of x))
domain-on sources variables domains e n x typed fits kind_is is =
    is ∙ ap (λ s. Ok s) (domain-fits n x (subst (λ k. IsShapeOf k x) kind_is (shape-agrees sources variables domains e x typed fits is)))

-- what has cells, and is a part of a whole
stands : (kind : Kind) (x whole : Shape) → HasCells 0 kind → IsShapeOf kind x → IsPartOf x whole → (x ≡ whole) ⊎ (x ≡ scalar)
stands kind scalar whole cells fits part = inr refl
stands kind (array axes) whole cells fits part = inl (sym part)
stands (Scalar cell) (box axes) whole cells fits part = absurd fits
stands (Array cell n) (box axes) whole cells fits part = absurd fits
stands (DomainKind n) (box axes) whole cells fits part = absurd cells
stands (Point n) (box axes) whole cells fits part = absurd fits

either-shape : (domains : List Box) (e : Tree) (x whole : Shape) → shape_of domains e ≡ Ok x → (x ≡ whole) ⊎ (x ≡ scalar) → IsOperandIn domains whole e
either-shape domains e x whole is (inl same) = inl (is ∙ ap (λ s. Ok s) same)
either-shape domains e x whole is (inr one) = inr (is ∙ ap (λ s. Ok s) one)

pub stands-in : (sources : List CheckedSource) (variables : Variables) (domains : List Box) (whole : Shape) (e : Tree) (x : Shape)
    → IsWellTyped sources variables e → AreDomainsOf sources domains → HasCells 0 (kind_in e) → shape_of domains e ≡ Ok x → IsPartOf x whole → IsOperandIn domains whole e
stands-in sources variables domains whole e x typed fits cells is part =
    either-shape domains e x whole is (stands (kind_in e) x whole cells (shape-agrees sources variables domains e x typed fits is) part)

-- ---- numbers and tests

scalar-number : (kind : Kind) → is_scalar_number kind ≡ true → (cell : CellType) × (kind ≡ Scalar cell)
scalar-number (Scalar cell) is = (cell, refl)
scalar-number (Array cell n) is = absurd (false≢true is)
scalar-number (DomainKind n) is = absurd (false≢true is)
scalar-number (Point n) is = absurd (false≢true is)

number-kind : (e : Tree) → is_number_tree e ≡ true → (cell : CellType) × (kind_in e ≡ Scalar cell)
number-kind (node span kind form) is = scalar-number kind is

test-kind : (kind : Kind) → is_scalar_bool kind ≡ true → (cell : CellType) × (kind ≡ Scalar cell)
test-kind (Scalar cell) is = (cell, refl)
test-kind (Array cell n) is = absurd (false≢true is)
test-kind (DomainKind n) is = absurd (false≢true is)
test-kind (Point n) is = absurd (false≢true is)

one-number : (sources : List CheckedSource) (variables : Variables) (domains : List Box) (e : Tree) (x : Shape)
    → IsWellTyped sources variables e → AreDomainsOf sources domains → is_number_tree e ≡ true → shape_of domains e ≡ Ok x → IsOneCell domains e
one-number sources variables domains e x typed fits number is =
    let kind = number-kind e number in one-cell sources variables domains e kind.0 x typed fits kind.1 is

pub condition-one : (sources : List CheckedSource) (variables : Variables) (domains : List Box) (condition : Condition) (x : Shape)
    → IsWellTypedCondition sources variables condition → AreDomainsOf sources domains → condition_shape domains condition ≡ Ok x → ConditionHasOneCell domains condition
condition-one sources variables domains always x typed fits is = tt
condition-one sources variables domains (only_where c) x typed fits is =
    let kind = test-kind (kind_in c) typed.1 in one-cell sources variables domains c kind.0 x typed.0 fits kind.1 is

-- ---- lists of numbers

pub offsets-one : (sources : List CheckedSource) (variables : Variables) (domains : List Box) (es : Trees) (values : List Bound)
    → AreWellTyped sources variables es → AreDomainsOf sources domains → all_trees is_number_tree es ≡ true → offsets_of domains es ≡ Ok values → HaveOneCell domains es
offsets-one sources variables domains no_trees values typed fits numbers is = tt
offsets-one sources variables domains (trees e es) values typed fits numbers is =
    let one = bind_ok (shape_of domains e) (λ inner. offsets_of domains es >>= λ values. Ok (static_of domains e ∷ values)) values is in
    let two = bind_ok (offsets_of domains es) (λ values. Ok (static_of domains e ∷ values)) values one.2 in
    let both = and_parts (is_number_tree e) (all_trees is_number_tree es) numbers in
    (one-number sources variables domains e one.0 typed.0 fits both.0 one.1, offsets-one sources variables domains es two.0 typed.1 fits both.1 two.1)

pub bounds-one : (sources : List CheckedSource) (variables : Variables) (domains : List Box) (ps : Pairs) (values : List (Bound × Bound))
    → AreWellTypedPairs sources variables ps → AreDomainsOf sources domains → all_pairs is_number_tree ps ≡ true → bounds_of domains ps ≡ Ok values
    → PairsHaveOneCell domains ps
bounds-one sources variables domains no_pairs values typed fits numbers is = tt
bounds-one sources variables domains (pairs a b ps) values typed fits numbers is =
    let one = bind_ok (shape_of domains a) (λ x. shape_of domains b >>= λ y. bounds_of domains ps >>= λ values. Ok ((static_of domains a, static_of domains b) ∷ values)) values is in
    let two = bind_ok (shape_of domains b) (λ y. bounds_of domains ps >>= λ values. Ok ((static_of domains a, static_of domains b) ∷ values)) values one.2 in
    let three = bind_ok (bounds_of domains ps) (λ values. Ok ((static_of domains a, static_of domains b) ∷ values)) values two.2 in
    let first = and_parts (is_number_tree a) (is_number_tree b && all_pairs is_number_tree ps) numbers in
    let second = and_parts (is_number_tree b) (all_pairs is_number_tree ps) first.1 in (
      one-number sources variables domains a one.0 typed.0 fits first.0 one.1,
      one-number sources variables domains b two.0 typed.1 fits second.0 two.1,
      bounds-one sources variables domains ps three.0 typed.2 fits second.1 three.1,
    )

edge-one : (sources : List CheckedSource) (variables : Variables) (domains : List Box) (z : ℤ) (a : Edge) (value : Bound)
    → IsWellTypedEdge sources variables a → AreDomainsOf sources domains → on_edge is_number_tree a ≡ true → edge_value domains z a ≡ Ok value → EdgeHasOneCell domains a
edge-one sources variables domains z own value typed fits number is = tt
edge-one sources variables domains z (edge e) value typed fits number is =
    let one = bind_ok (shape_of domains e) (λ inner. Ok (static_of domains e)) value is in one-number sources variables domains e one.0 typed fits number one.1

-- the positions and the bounds of an index
pub axes-one : (sources : List CheckedSource) (variables : Variables) (domains : List Box) (axes : Axes) (rest : Box) (cuts : List Cut)
    → AreWellTypedAxes sources variables axes → AreDomainsOf sources domains → are_numbers axes ≡ true → count_of axes ≡ length rest → cuts_of domains axes rest ≡ Ok cuts
    → AxesHaveOneCell domains axes
axes-one sources variables domains no_axes rest cuts typed fits numbers same is = tt
axes-one sources variables domains (position e axes) [] cuts typed fits numbers same is = absurd (omega arith)
axes-one sources variables domains (trim a b axes) [] cuts typed fits numbers same is = absurd (omega arith)
axes-one sources variables domains (position e axes) (axis ∷ rest) cuts typed fits numbers same is =
    let one = bind_ok (shape_of domains e) (λ inner. cuts_of domains axes rest >>= λ cuts. Ok (position_cut (is_static e) (static_of domains e) ∷ cuts)) cuts is in
    let two = bind_ok (cuts_of domains axes rest) (λ cuts. Ok (position_cut (is_static e) (static_of domains e) ∷ cuts)) cuts one.2 in
    let both = and_parts (is_number_tree e) (are_numbers axes) numbers in
    (one-number sources variables domains e one.0 typed.0 fits both.0 one.1, axes-one sources variables domains axes rest two.0 typed.1 fits both.1 (omega arith) two.1)
axes-one sources variables domains (trim a b axes) (axis ∷ rest) cuts typed fits numbers same is =
    let one = bind_ok (edge_value domains axis.lo a) (λ lo. edge_value domains axis.hi b >>= λ hi. cuts_of domains axes rest >>= λ cuts. Ok (trim_cut lo hi ∷ cuts)) cuts is in
    let two = bind_ok (edge_value domains axis.hi b) (λ hi. cuts_of domains axes rest >>= λ cuts. Ok (trim_cut one.0 hi ∷ cuts)) cuts one.2 in
    let three = bind_ok (cuts_of domains axes rest) (λ cuts. Ok (trim_cut one.0 two.0 ∷ cuts)) cuts two.2 in
    let first = and_parts (on_edge is_number_tree a) (on_edge is_number_tree b && are_numbers axes) numbers in
    let second = and_parts (on_edge is_number_tree b) (are_numbers axes) first.1 in (
      edge-one sources variables domains axis.lo a one.0 typed.0 fits first.0 one.1,
      edge-one sources variables domains axis.hi b two.0 typed.1 fits second.0 two.1,
      axes-one sources variables domains axes rest three.0 typed.2 fits second.1 (omega arith) three.1,
    )

-- ---- axes that are there

axis-below : (k : ℤ) (n : ℕ) → is_axis k n ≡ true → unsigned_abs k < n
axis-below (pos a) n is = ltb-true a n (and_parts (int_le (pos 0) (pos a)) (int_lt (pos a) (pos n)) is).1
axis-below (negsuc a) n is = absurd cc

axis-at : (axes : Box) (k : ℕ) → k < length axes → (axis : Interval) × (slice_get axes k ≡ Some axis)
axis-at [] k below = absurd (omega arith)
axis-at (axis ∷ axes) zero below = (axis, refl)
axis-at (axis ∷ axes) (suc k) below = axis-at axes k (omega arith)

-- the axis of this number
pub axis-of : (axes : Box) (k : ℤ) (n : ℕ) → length axes ≡ n → is_axis k n ≡ true → (axis : Interval) × (slice_get axes (unsigned_abs k) ≡ Some axis)
axis-of axes k n same is = axis-at axes (unsigned_abs k) (subst (λ m. unsigned_abs k < m) (sym same) (axis-below k n is))

-- the domain of a source's array
pub domain-of : (sources : List CheckedSource) (domains : List Box) (place : ℕ) (source : CheckedSource) → AreDomainsOf sources domains → slice_get sources place ≡ Some source
    → (domain : Box) × (slice_get domains place ≡ Some domain)
domain-of [] domains place source fits at = absurd cc
domain-of (s ∷ sources) [] place source fits at = absurd fits
domain-of (s ∷ sources) (domain ∷ domains) zero source fits at = (domain, refl)
domain-of (s ∷ sources) (domain ∷ domains) (suc place) source fits at = domain-of sources domains place source fits.3 at
