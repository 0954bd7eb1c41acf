-- The cell of a checked expression at a point of its shape, or the first cell fault from the left. It speaks of expressions
-- that have no shape fault over the row.
use Rattle.std.specs.Prelude.{ℕ, ℤ, pos, neg_ℤ, ◌+ℤ◌, ◌-ℤ◌, unsigned_abs, Bool, false, if◌then◌else◌, List, [], ◌∷◌, ◌++◌, map, replicate, slice_get, Option, Some, None, Result, Ok, Err}
use Rattle.std.specs.Int.{from_bool}
use Rattle.std.specs.List.{zip}
use Rattle.std.specs.Map.{lookup}
use Rattle.ras_cells.specs.declared.cell.Cell.{Cell}
use Rattle.ras_cells.specs.declared.cell.Cell.TheVariants.{Null, Value}
use Rattle.ras_cells.specs.declared.cell.CellFault.{CellFault}
use Rattle.ras_cells.specs.declared.cell.CellFault.TheVariants.{IndexOut}
use Rattle.ras_cells.specs.Cells.{single, only, cast_to, outcome1, outcome2}
use Rattle.ras_cells.specs.Numbers.{is_true}
use Rattle.ras_cells.specs.Outcomes.{◌>>=◌}
use Rattle.ras_cells.specs.Stored.{NullSet, read_of}
use Rattle.ras_domain.specs.Region.{points_of, is_in}
use Rattle.ras_domain.specs.Boxes.{moved_by}
use Rattle.ras_syntax.specs.declared.typed.Kind.{Kind}
use Rattle.spec_expressions.specs.Tree.{NameOf, is_same_name, Tree, Form, Trees, Pairs, Axes, Condition, node, truth, number, iterator, variable, coordinate, unary, cast, binary, index, at_point, component, choice, composite, marray, condense, folded, shift, extend, concat, domain_of, interval_of, bound_of, oid, no_trees, trees, no_pairs, pairs, no_axes, position, trim, always, only_where}
use Rattle.spec_expressions.specs.Database.{Member, stored_at}
use Rattle.spec_expressions.specs.Fold.{fold_of, cells_fold_of}
use Rattle.spec_expressions.specs.Shape.{Box, Shape, ShapeMisfit, Written, box_of, shape_of, shapes_of, written_of, written_box, offsets_of, values_of, static_form, placed_parts, width_of_kind}

-- the arrays of a row, and the points that the variables in scope stand for, innermost first
pub record Environment : Type 0 where
  pub row : List Member
  pub variables : List (NameOf × List ℤ)

abbrev pub CellOutcome : Type 0
CellOutcome = Result Cell CellFault

abbrev pub domains_in : Environment → List Box
domains_in scope = map (λ member. member.array.domain) scope.row

abbrev pub with_point : NameOf → List ℤ → Environment → Environment
with_point x p scope = record scope { variables = (x, p) ∷ scope.variables }

-- the point of a variable
abbrev pub point_of : Environment → NameOf → Option (List ℤ)
point_of scope x = lookup (is_same_name x) scope.variables

-- ---- boxes of parts

abbrev pub box_in : Result Shape ShapeMisfit → Box
box_in (Ok shape) = box_of shape
box_in (Err misfit) = []

abbrev pub boxes_in : Result (List Shape) ShapeMisfit → List Box
boxes_in (Ok shapes) = map box_of shapes
boxes_in (Err misfit) = []

abbrev pub written_in : Result Written ShapeMisfit → Result Box ShapeMisfit
written_in (Err misfit) = Err misfit
written_in (Ok written) = written_box (record { from = 0; to = 0 }) written

abbrev pub axes_in : Result Box ShapeMisfit → Box
axes_in (Ok axes) = axes
axes_in (Err misfit) = []

abbrev pub numbers_or_none : Option (List ℤ) → List ℤ
numbers_or_none None = []
numbers_or_none (Some zs) = zs

abbrev pub offsets_in : Result (List (Result ℤ CellFault)) ShapeMisfit → List ℤ
offsets_in (Ok values) = numbers_or_none (values_of values)
offsets_in (Err misfit) = []

-- ---- cells

abbrev pub stored_cell : NullSet → Option (List ℤ) → CellOutcome
stored_cell nulls None = Err IndexOut
stored_cell nulls (Some numbers) = Ok (read_of (record { items = numbers }) nulls)

abbrev pub member_cell : Option Member → List ℤ → CellOutcome
member_cell None p = Err IndexOut
member_cell (Some member) p = stored_cell member.of.nulls (stored_at member.array p)

abbrev pub optional_number : Option ℤ → CellOutcome
optional_number None = Ok Null
optional_number (Some z) = Ok (single z)

abbrev pub coordinate_of : Option (List ℤ) → ℤ → CellOutcome
coordinate_of None k = Ok Null
coordinate_of (Some p) k = optional_number (slice_get p (unsigned_abs k))

-- a null condition counts as false
abbrev pub holds : Cell → Bool
holds Null = false
holds (Value numbers) = is_true (only numbers.items)

abbrev pub component_of : Cell → ℤ → CellOutcome
component_of Null k = Ok Null
component_of (Value numbers) k = optional_number (slice_get numbers.items (unsigned_abs k))

abbrev pub with_component : Cell → Cell → Cell
with_component Null rest = Null
with_component (Value numbers) Null = Null
with_component (Value numbers) (Value others) = Value (record { items = numbers.items ++ others.items })

-- the components side by side, or null where one is null
abbrev pub composite_of : List Cell → Cell
composite_of [] = Value (record { items = [] })
composite_of (cell ∷ cells) = with_component cell (composite_of cells)

abbrev pub zeros : ℕ → Cell
zeros width = Value (record { items = replicate width (pos 0) })

-- ---- positions

-- the number of a position, none where it is null
abbrev pub position_in : Cell → Option ℤ
position_in Null = None
position_in (Value numbers) = Some (only numbers.items)

abbrev pub with_position : Option ℤ → Option (List ℤ) → Option (List ℤ)
with_position None rest = None
with_position (Some z) None = None
with_position (Some z) (Some zs) = Some (z ∷ zs)

-- a null position gives null, also where another one is outside
abbrev pub cell_in : Box → (List ℤ → CellOutcome) → Option (List ℤ) → CellOutcome
cell_in axes cells None = Ok Null
cell_in axes cells (Some p) = if is_in p axes then cells p else Err IndexOut

-- the point p of a box, moved to where it lies in the other box
abbrev pub moved_between : Box → Box → List ℤ → List ℤ
moved_between from to p = map (λ x. x.0 +ℤ (x.1.1.lo -ℤ x.1.0.lo)) (zip p (zip from to))

abbrev pub oid_of : Option Member → CellOutcome
oid_of None = Ok Null
oid_of (Some member) = Ok (single (pos member.oid))

abbrev pub member_named : List Member → NameOf → Option Member
member_named [] a = None
member_named (member ∷ members) a = if is_same_name a member.iterator then Some member else member_named members a

-- ---- the cell at a point; a scalar has the same one at every point

abbrev mutual
  pub cell_at : Environment → Tree → List ℤ → CellOutcome
  cell_at scope (node span kind form) p = form_cell scope kind form p

  pub form_cell : Environment → Kind → Form → List ℤ → CellOutcome
  form_cell scope kind (truth b) p = Ok (single (pos (from_bool b)))
  form_cell scope kind (number z atom) p = Ok (single z)
  form_cell scope kind (iterator place) p = member_cell (slice_get scope.row place) p
  form_cell scope kind (variable x) p = Ok Null
  form_cell scope kind (coordinate x k) p = coordinate_of (point_of scope x) k
  form_cell scope kind (unary op e) p = outcome1 op (cell_at scope e p)
  form_cell scope kind (cast atom e) p = do
    x ← cell_at scope e p
    cast_to atom x
  form_cell scope kind (binary op a b) p = outcome2 op (cell_at scope a p) (cell_at scope b p)
  form_cell scope kind (index e axes) p = do
    q ← positions_at scope axes p
    cell_in (box_in (shape_of (domains_in scope) e)) (cell_at scope e) q
  form_cell scope kind (at_point e x) p =
      cell_in (box_in (shape_of (domains_in scope) e)) (cell_at scope e) (point_of scope x)
  form_cell scope kind (component e k) p = do
    x ← cell_at scope e p
    component_of x k
  form_cell scope kind (choice arms other) p = chosen_cell scope arms p (cell_at scope other p)
  form_cell scope kind (composite es) p = do
    cells ← cells_at scope es p
    Ok (composite_of cells)
  form_cell scope kind (marray x domain e) p = cell_at (with_point x p scope) e []
  form_cell scope kind (condense op x domain condition e) p =
      fold_of op
      (map (λ q. where_true (with_point x q scope) condition (cell_at (with_point x q scope) e []))
      (points_of (axes_in (written_in (written_of (domains_in scope) domain)))))
  form_cell scope kind (folded f e) p =
      cells_fold_of f (map (λ q. cell_at scope e q) (points_of (box_in (shape_of (domains_in scope) e))))
  form_cell scope kind (shift e offsets) p =
      cell_at scope e (moved_by (map neg_ℤ (offsets_in (offsets_of (domains_in scope) offsets))) p)
  form_cell scope kind (extend e domain) p =
      if is_in p (box_in (shape_of (domains_in scope) e)) then cell_at scope e p else Ok (zeros (width_of_kind kind))
  form_cell scope kind (concat parts along) p =
      part_cell scope parts (boxes_in (shapes_of (domains_in scope) parts))
      (placed_parts (unsigned_abs along) (boxes_in (shapes_of (domains_in scope) parts))) p
  form_cell scope kind (domain_of e) p = Ok Null
  form_cell scope kind (interval_of e k) p = Ok Null
  form_cell scope kind (bound_of side e k) p = do
    z ← static_form (domains_in scope) (bound_of side e k)
    Ok (single z)
  form_cell scope kind (oid a) p = oid_of (member_named scope.row a)

  pub cells_at : Environment → Trees → List ℤ → Result (List Cell) CellFault
  cells_at scope no_trees p = Ok []
  cells_at scope (trees e es) p = do
    x ← cell_at scope e p
    xs ← cells_at scope es p
    Ok (x ∷ xs)

  -- the value of the first arm whose condition holds, and only the conditions up to it count
  pub chosen_cell : Environment → Pairs → List ℤ → CellOutcome → CellOutcome
  chosen_cell scope no_pairs p other = other
  chosen_cell scope (pairs c e arms) p other = do
    x ← cell_at scope c p
    if holds x then cell_at scope e p else chosen_cell scope arms p other

  -- the outcome where the condition is true, else null; the condition's fault comes first
  pub where_true : Environment → Condition → CellOutcome → CellOutcome
  where_true scope always outcome = outcome
  where_true scope (only_where c) outcome = do
    x ← cell_at scope c []
    if holds x then outcome else Ok Null

  -- the point that an index looks at for the point p of its result: each position's number, and p's coordinates on the
  -- axes that are kept
  pub positions_at : Environment → Axes → List ℤ → Result (Option (List ℤ)) CellFault
  positions_at scope no_axes p = Ok (Some [])
  positions_at scope (position e axes) p = do
    x ← cell_at scope e []
    rest ← positions_at scope axes p
    Ok (with_position (position_in x) rest)
  positions_at scope (trim a b axes) [] = Ok (Some [])
  positions_at scope (trim a b axes) (c ∷ p) = do
    rest ← positions_at scope axes p
    Ok (with_position (Some c) rest)

  -- the cell of the part whose place has the point
  pub part_cell : Environment → Trees → List Box → List Box → List ℤ → CellOutcome
  part_cell scope no_trees owns places p = Err IndexOut
  part_cell scope (trees e es) [] places p = Err IndexOut
  part_cell scope (trees e es) (axes ∷ owns) [] p = Err IndexOut
  part_cell scope (trees e es) (axes ∷ owns) (place ∷ places) p =
      if is_in p place then cell_at scope e (moved_between place axes p) else part_cell scope es owns places p

-- ---- all cells

abbrev pub with_place : List ℤ → CellOutcome → Result Cell (List ℤ × CellFault)
with_place p (Ok cell) = Ok cell
with_place p (Err fault) = Err (p, fault)

abbrev pub all_outcomes : (List ℤ → CellOutcome) → List (List ℤ) → Result (List Cell) (List ℤ × CellFault)
all_outcomes cells [] = Ok []
all_outcomes cells (p ∷ ps) = do
  x ← with_place p (cells p)
  xs ← all_outcomes cells ps
  Ok (x ∷ xs)

-- the cells at all points of the shape in row-major order, or the first fault of that list with its point; a scalar's
-- point is []
abbrev pub cells_of : Environment → Tree → Result (List Cell) (List ℤ × CellFault)
cells_of scope e = all_outcomes (cell_at scope e) (points_of (box_in (shape_of (domains_in scope) e)))
