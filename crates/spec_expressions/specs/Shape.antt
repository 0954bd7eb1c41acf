-- The shape of a checked expression, or the first shape fault in the order of the text, parts before the whole. It reads
-- the domains of the iterators' arrays and no cell.
use Rattle.std.specs.Prelude.{ℕ, zero, suc, ◌*◌, nat_lt, ◌==◌, ℤ, pos, ◌+ℤ◌, ◌-ℤ◌, unsigned_abs, int_lt, int_le, Bool, true, false, not, ◌&&◌, ◌||◌, if◌then◌else◌, List, ◌∷◌, ◌++◌, length, map, slice_get, Option, Some, None, Result, Ok, Err, []}
use Rattle.std.specs.List.{fold, list_any, list_all, zip}
use Rattle.ras_cells.specs.declared.atom.Atom.TheVariants as atoms
use Rattle.ras_cells.specs.declared.cell.CellFault.{CellFault}
use Rattle.ras_cells.specs.declared.cell.CellFault.TheVariants.{Overflow}
use Rattle.ras_cells.specs.declared.numbers.Op1.TheVariants as one
use Rattle.ras_cells.specs.declared.numbers.Op2.TheVariants as two
use Rattle.ras_cells.specs.Atoms.{is_in_range}
use Rattle.ras_cells.specs.Numbers.{of_number, of_numbers}
use Rattle.ras_cells.specs.Stored.{atoms_of}
use Rattle.ras_domain.specs.declared.region.Interval.{Interval}
use Rattle.ras_domain.specs.declared.TheConstants.{MAX_POINTS}
use Rattle.ras_domain.specs.Region.{extent_of, volume_of}
use Rattle.ras_domain.specs.Boxes.{hull_of, shifted_by, is_same_box, lies_in}
use Rattle.ras_syntax.specs.declared.span.Span.{Span}
use Rattle.ras_syntax.specs.declared.faults.ShapeFault.{ShapeFault}
use Rattle.ras_syntax.specs.declared.faults.ShapeFault.TheVariants.{Outside, DomainsDiffer, ExtentsDiffer, EmptyDomain, BoundOut, ArrayTooLarge}
use Rattle.ras_syntax.specs.declared.typed.Kind.{Kind}
use Rattle.ras_syntax.specs.declared.typed.Kind.TheVariants as kinds
use Rattle.spec_expressions.specs.Tree.{Side, Tree, Form, Trees, Pairs, Axes, Edge, Domain, Condition, lower, upper, node, truth, number, iterator, variable, coordinate, unary, cast, binary, index, at_point, component, choice, composite, marray, condense, folded, shift, extend, concat, domain_of, interval_of, bound_of, oid, no_trees, trees, no_pairs, pairs, no_axes, position, trim, own, edge, bounds, domain_like, always, only_where}
use Rattle.ras_syntax.specs.declared.limits.TheConstants.{MAX_STORED_NUMBERS}
use Rattle.ras_cells.specs.Outcomes.{◌>>=◌}

abbrev pub Box : Type 0
Box = List Interval

-- what an expression stands for: one cell, an array on a box, or a box itself
pub data Shape : Type 0 where
  scalar : Shape
  array : Box → Shape
  box : Box → Shape

-- a fault with its place in the text
abbrev pub ShapeMisfit : Type 0
ShapeMisfit = Span × ShapeFault

-- ---- boxes

abbrev pub is_small : ℤ → Bool
is_small z = is_in_range atoms.Long z

abbrev pub has_large_bound : Interval → Bool
has_large_bound axis = not (is_small axis.lo && is_small axis.hi)

-- how many numbers are stored for a cell of a kind
abbrev pub width_of_kind : Kind → ℕ
width_of_kind (kinds.Scalar cell) = length (atoms_of cell)
width_of_kind (kinds.Array cell axes) = length (atoms_of cell)
width_of_kind other = 1

-- the box of what has one; a scalar counts as one point
abbrev pub box_of : Shape → Box
box_of scalar = []
box_of (array axes) = axes
box_of (box axes) = axes

abbrev pub fault_where : Bool → Span → ShapeFault → Box → Result Box ShapeMisfit
fault_where wrong span fault axes = if wrong then Err (span, fault) else Ok axes

-- no more than 2^24 points, and with so many numbers a cell no more than 2^24 stored numbers
abbrev pub of_size : Span → ℕ → Box → Result Box ShapeMisfit
of_size span width axes =
    fault_where (nat_lt MAX_POINTS (volume_of axes) || nat_lt MAX_STORED_NUMBERS (volume_of axes * width)) span ArrayTooLarge axes

-- the common shape of operands: that of their arrays, whose domains are equal, or a scalar
abbrev pub both_shapes : Span → Shape → Shape → Result Shape ShapeMisfit
both_shapes span (array a) (array b) = if is_same_box a b then Ok (array a) else Err (span, DomainsDiffer)
both_shapes span (array a) other = Ok (array a)
both_shapes span shape other = Ok other

abbrev pub common_shape : Span → List Shape → Result Shape ShapeMisfit
common_shape span [] = Ok scalar
common_shape span (shape ∷ shapes) = do
  others ← common_shape span shapes
  both_shapes span shape others

abbrev pub sized_shape : Span → ℕ → Shape → Result Shape ShapeMisfit
sized_shape span width (array axes) = do
  kept ← of_size span width axes
  Ok (array kept)
sized_shape span width other = Ok other

-- ---- the axes of an index

pub data Cut : Type 0 where
  -- a static position
  fixed : ℤ → Cut
  -- a position that each cell has for itself
  moving : Cut
  between : ℤ → ℤ → Cut
  -- a position or a bound that has no value, or a bound that leaves 32 bits
  broken : Cut

abbrev pub position_cut : Bool → Result ℤ CellFault → Cut
position_cut false value = moving
position_cut true (Ok z) = fixed z
position_cut true (Err fault) = broken

abbrev pub trim_cut : Result ℤ CellFault → Result ℤ CellFault → Cut
trim_cut (Ok lo) (Ok hi) = if is_small lo && is_small hi then between lo hi else broken
trim_cut (Ok lo) (Err fault) = broken
trim_cut (Err fault) hi = broken

abbrev pub is_broken : Cut → Bool
is_broken broken = true
is_broken other = false

abbrev pub is_empty_cut : Cut → Bool
is_empty_cut (between lo hi) = int_lt hi lo
is_empty_cut other = false

-- the cut leaves the axis
abbrev pub is_outside : Cut × Interval → Bool
is_outside (fixed z, axis) = not (int_le axis.lo z && int_le z axis.hi)
is_outside (between lo hi, axis) = not (int_le axis.lo lo && int_le hi axis.hi)
is_outside (other, axis) = false

-- a trim keeps its axis, a position removes it
abbrev pub kept_axes : List Cut → Box
kept_axes [] = []
kept_axes (between lo hi ∷ cuts) = record { lo = lo; hi = hi } ∷ kept_axes cuts
kept_axes (other ∷ cuts) = kept_axes cuts

-- all positions give a scalar
abbrev pub array_or_scalar_shape : Box → Shape
array_or_scalar_shape [] = scalar
array_or_scalar_shape (axis ∷ axes) = array (axis ∷ axes)

abbrev pub cut_shape : Span → Box → List Cut → Result Shape ShapeMisfit
cut_shape span axes cuts =
    if list_any is_broken cuts then Err (span, BoundOut) else
    if list_any is_empty_cut cuts then Err (span, EmptyDomain) else
    if list_any is_outside (zip cuts axes) then Err (span, Outside) else
    Ok (array_or_scalar_shape (kept_axes cuts))

-- ---- domains

abbrev pub Bound : Type 0
Bound = Result ℤ CellFault

-- bounds that are written, or a domain that is taken from an array
pub data Written : Type 0 where
  literal : List (Bound × Bound) → Written
  taken : Box → Written

abbrev pub cut_of : Bound × Bound → Cut
cut_of both = trim_cut both.0 both.1

abbrev pub written_box : Span → Written → Result Box ShapeMisfit
written_box span (taken axes) = Ok axes
written_box span (literal ends) =
    if list_any is_broken (map cut_of ends) then Err (span, BoundOut) else
    if list_any is_empty_cut (map cut_of ends) then Err (span, EmptyDomain) else
    Ok (kept_axes (map cut_of ends))

-- ---- shift and concat

abbrev pub with_value : ℤ → Option (List ℤ) → Option (List ℤ)
with_value z None = None
with_value z (Some zs) = Some (z ∷ zs)

-- the values, where each has one
abbrev pub values_of : List Bound → Option (List ℤ)
values_of [] = Some []
values_of (Ok z ∷ others) = with_value z (values_of others)
values_of (Err fault ∷ others) = None

abbrev pub moved_box : Span → Box → Option (List ℤ) → Result Shape ShapeMisfit
moved_box span axes None = Err (span, BoundOut)
moved_box span axes (Some offsets) =
    if list_any has_large_bound (shifted_by offsets axes) then Err (span, BoundOut) else Ok (array (shifted_by offsets axes))

-- the interval b moved so that it begins where the first does, or follows its predecessor
abbrev pub interval_from : Interval → Interval → Interval
interval_from first b = record { lo = first.lo; hi = first.lo +ℤ (b.hi -ℤ b.lo) }

abbrev pub interval_after : Interval → Interval → Interval
interval_after before b = record { lo = before.hi +ℤ pos 1; hi = before.hi +ℤ pos 1 +ℤ (b.hi -ℤ b.lo) }

-- the box b moved so that it follows its predecessor on axis n and begins with the first on the others
abbrev pub moved_after : ℕ → Box → Box → Box → Box
moved_after n [] before b = []
moved_after n (first ∷ firsts) [] b = []
moved_after n (first ∷ firsts) (before ∷ befores) [] = []
moved_after zero (first ∷ firsts) (before ∷ befores) (b ∷ bs) = interval_after before b ∷ map (λ x. interval_from x.0 x.1) (zip firsts bs)
moved_after (suc n) (first ∷ firsts) (before ∷ befores) (b ∷ bs) = interval_from first b ∷ moved_after n firsts befores bs

-- the boxes of the parts after the first, each moved after its predecessor
abbrev pub placed_after : ℕ → Box → Box → List Box → List Box
placed_after n first before [] = []
placed_after n first before (b ∷ bs) = moved_after n first before b ∷ placed_after n first (moved_after n first before b) bs

abbrev pub placed_parts : ℕ → List Box → List Box
placed_parts n [] = []
placed_parts n (first ∷ others) = first ∷ placed_after n first first others

-- the extents are equal on every axis but n
abbrev pub has_extents_of : ℕ → Box → Box → Bool
has_extents_of n [] b = true
has_extents_of n (first ∷ firsts) [] = true
has_extents_of zero (first ∷ firsts) (b ∷ bs) = list_all (λ x. extent_of x.0 == extent_of x.1) (zip firsts bs)
has_extents_of (suc n) (first ∷ firsts) (b ∷ bs) = (extent_of first == extent_of b) && has_extents_of n firsts bs

abbrev pub joined_parts : List Box → Box
joined_parts [] = []
joined_parts (first ∷ others) = fold hull_of first others

abbrev pub extents_agree : ℕ → List Box → Bool
extents_agree n [] = true
extents_agree n (first ∷ others) = list_all (has_extents_of n first) others

abbrev pub concat_shape : Span → ℕ → ℕ → List Box → Result Shape ShapeMisfit
concat_shape span width n parts =
    if not (extents_agree n parts) then Err (span, ExtentsDiffer) else
    if list_any (list_any has_large_bound) (placed_parts n parts) then Err (span, BoundOut) else
    sized_shape span width (array (joined_parts (placed_parts n parts)))

-- ---- static expressions

-- built of literals without a suffix, bounds of domains, unary minus, +, - and *
abbrev mutual
  pub is_static : Tree → Bool
  is_static (node span kind form) = is_static_form form

  pub is_static_form : Form → Bool
  is_static_form (number z atoms.Wide) = true
  is_static_form (bound_of side e k) = true
  is_static_form (unary one.Neg e) = is_static e
  is_static_form (binary two.Add a b) = is_static a && is_static b
  is_static_form (binary two.Sub a b) = is_static a && is_static b
  is_static_form (binary two.Mul a b) = is_static a && is_static b
  is_static_form other = false

abbrev pub interval_at : Box → ℤ → Option Interval
interval_at axes k = slice_get axes (unsigned_abs k)

abbrev pub side_of : Side → Option Interval → Bound
side_of lower (Some axis) = Ok axis.lo
side_of upper (Some axis) = Ok axis.hi
side_of side None = Err Overflow

abbrev pub interval_list : Option Interval → Box
interval_list None = []
interval_list (Some axis) = axis ∷ []

abbrev pub iterator_shape : Option Box → Shape
iterator_shape None = scalar
iterator_shape (Some axes) = array axes

abbrev pub side_of_shape : Side → ℤ → Result Shape ShapeMisfit → Bound
side_of_shape side k (Ok shape) = side_of side (interval_at (box_of shape) k)
side_of_shape side k (Err misfit) = Err Overflow

-- ---- shapes

abbrev mutual
  pub shape_of : List Box → Tree → Result Shape ShapeMisfit
  shape_of domains (node span kind form) = form_shape domains span kind form

  pub form_shape : List Box → Span → Kind → Form → Result Shape ShapeMisfit
  form_shape domains span kind (truth b) = Ok scalar
  form_shape domains span kind (number z atom) = Ok scalar
  form_shape domains span kind (iterator place) = Ok (iterator_shape (slice_get domains place))
  form_shape domains span kind (variable x) = Ok scalar
  form_shape domains span kind (coordinate x k) = Ok scalar
  form_shape domains span kind (unary op e) = shape_of domains e
  form_shape domains span kind (cast atom e) = shape_of domains e
  form_shape domains span kind (binary op a b) = do
    x ← shape_of domains a
    y ← shape_of domains b
    common_shape span (x ∷ y ∷ [])
  form_shape domains span kind (index e axes) = do
    x ← shape_of domains e
    cuts ← cuts_of domains axes (box_of x)
    cut_shape span (box_of x) cuts
  form_shape domains span kind (at_point e x) = do
    inner ← shape_of domains e
    Ok scalar
  form_shape domains span kind (component e k) = shape_of domains e
  form_shape domains span kind (choice arms other) = do
    xs ← pair_shapes domains arms
    x ← shape_of domains other
    common ← common_shape span (xs ++ x ∷ [])
    sized_shape span (width_of_kind kind) common
  form_shape domains span kind (composite es) = do
    xs ← shapes_of domains es
    x ← common_shape span xs
    sized_shape span (width_of_kind kind) x
  form_shape domains span kind (marray x domain e) = do
    written ← written_of domains domain
    inner ← shape_of domains e
    axes ← written_box span written
    sized_shape span (width_of_kind kind) (array axes)
  form_shape domains span kind (condense op x domain condition e) = do
    written ← written_of domains domain
    tested ← condition_shape domains condition
    inner ← shape_of domains e
    axes ← written_box span written
    all ← of_size span 1 axes
    Ok scalar
  form_shape domains span kind (folded f e) = do
    inner ← shape_of domains e
    Ok scalar
  form_shape domains span kind (shift e offsets) = do
    x ← shape_of domains e
    values ← offsets_of domains offsets
    moved_box span (box_of x) (values_of values)
  form_shape domains span kind (extend e domain) = do
    x ← shape_of domains e
    written ← written_of domains domain
    axes ← written_box span written
    around ← fault_where (not (lies_in (box_of x) axes)) span Outside axes
    sized_shape span (width_of_kind kind) (array around)
  form_shape domains span kind (concat parts along) = do
    xs ← shapes_of domains parts
    concat_shape span (width_of_kind kind) (unsigned_abs along) (map box_of xs)
  form_shape domains span kind (domain_of e) = do
    x ← shape_of domains e
    Ok (box (box_of x))
  form_shape domains span kind (interval_of e k) = do
    x ← shape_of domains e
    Ok (box (interval_list (interval_at (box_of x) k)))
  form_shape domains span kind (bound_of side e k) = do
    inner ← shape_of domains e
    Ok scalar
  form_shape domains span kind (oid a) = Ok scalar

  pub shapes_of : List Box → Trees → Result (List Shape) ShapeMisfit
  shapes_of domains no_trees = Ok []
  shapes_of domains (trees e es) = do
    x ← shape_of domains e
    xs ← shapes_of domains es
    Ok (x ∷ xs)

  pub pair_shapes : List Box → Pairs → Result (List Shape) ShapeMisfit
  pair_shapes domains no_pairs = Ok []
  pair_shapes domains (pairs a b ps) = do
    x ← shape_of domains a
    y ← shape_of domains b
    xs ← pair_shapes domains ps
    Ok (x ∷ y ∷ xs)

  pub condition_shape : List Box → Condition → Result Shape ShapeMisfit
  condition_shape domains always = Ok scalar
  condition_shape domains (only_where e) = shape_of domains e

  -- the cuts of an index, over the axes of the array
  pub cuts_of : List Box → Axes → Box → Result (List Cut) ShapeMisfit
  cuts_of domains no_axes rest = Ok []
  cuts_of domains (position e axes) [] = Ok []
  cuts_of domains (trim a b axes) [] = Ok []
  cuts_of domains (position e axes) (axis ∷ rest) = do
    inner ← shape_of domains e
    cuts ← cuts_of domains axes rest
    Ok (position_cut (is_static e) (static_of domains e) ∷ cuts)
  cuts_of domains (trim a b axes) (axis ∷ rest) = do
    lo ← edge_value domains axis.lo a
    hi ← edge_value domains axis.hi b
    cuts ← cuts_of domains axes rest
    Ok (trim_cut lo hi ∷ cuts)

  -- a bound of a trim, the axis' own where it is *
  pub edge_value : List Box → ℤ → Edge → Result Bound ShapeMisfit
  edge_value domains z own = Ok (Ok z)
  edge_value domains z (edge e) = do
    inner ← shape_of domains e
    Ok (static_of domains e)

  pub written_of : List Box → Domain → Result Written ShapeMisfit
  written_of domains (bounds ps) = do
    values ← bounds_of domains ps
    Ok (literal values)
  written_of domains (domain_like e) = do
    x ← shape_of domains e
    Ok (taken (box_of x))

  pub bounds_of : List Box → Pairs → Result (List (Bound × Bound)) ShapeMisfit
  bounds_of domains no_pairs = Ok []
  bounds_of domains (pairs a b ps) = do
    x ← shape_of domains a
    y ← shape_of domains b
    values ← bounds_of domains ps
    Ok ((static_of domains a, static_of domains b) ∷ values)

  pub offsets_of : List Box → Trees → Result (List Bound) ShapeMisfit
  offsets_of domains no_trees = Ok []
  offsets_of domains (trees e es) = do
    inner ← shape_of domains e
    values ← offsets_of domains es
    Ok (static_of domains e ∷ values)

  -- the value of a static expression without shape faults
  pub static_of : List Box → Tree → Bound
  static_of domains (node span kind form) = static_form domains form

  pub static_form : List Box → Form → Bound
  static_form domains (number z atom) = Ok z
  static_form domains (bound_of side e k) = side_of_shape side k (shape_of domains e)
  static_form domains (unary op e) = do
    x ← static_of domains e
    of_number op x
  static_form domains (binary op a b) = do
    x ← static_of domains a
    y ← static_of domains b
    of_numbers op x y
  static_form domains other = Err Overflow
