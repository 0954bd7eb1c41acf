-- What a prepared expression gives at a point, one equation a form. It speaks of no shape, no name and no environment.
use Rattle.std.specs.Prelude.{ℕ, ℤ, neg_ℤ, if◌then◌else◌, List, [], ◌∷◌, ◌++◌, map, slice_get, Option, Some, None, Result, Ok, Err}
use Rattle.ras_cells.specs.declared.cell.CellFault.{CellFault}
use Rattle.ras_cells.specs.declared.cell.CellFault.TheVariants.{IndexOut}
use Rattle.ras_cells.specs.declared.cell.Cell.{Cell}
use Rattle.ras_cells.specs.declared.cell.Cell.TheVariants.{Null}
use Rattle.ras_cells.specs.Cells.{cast_to, outcome1, outcome2}
use Rattle.ras_cells.specs.Outcomes.{◌>>=◌}
use Rattle.ras_domain.specs.Region.{points_of, is_in}
use Rattle.ras_domain.specs.Boxes.{moved_by}
use Rattle.spec_expressions.specs.Database.{Member}
use Rattle.spec_expressions.specs.Fold.{fold_of, cells_fold_of}
use Rattle.spec_expressions.specs.Shape.{Box}
use Rattle.spec_expressions.specs.Eval.{CellOutcome, member_cell, coordinate_of, holds, component_of, composite_of, position_in, with_position, cell_in, moved_between}
use Rattle.ras_values.specs.declared.node.Node.{Node, fold-Node}
use Rattle.ras_values.specs.declared.node.Part.{Part, fold-Part}
use Rattle.ras_values.specs.declared.node.Position.{Position, fold-Position}
use Rattle.ras_values.specs.declared.node.Node.TheOpen.{Node-F, Part-F, Position-F}

-- the arrays of a row, the points of the variables in scope, outermost first, and a point
abbrev pub NodeCells : Type 0
NodeCells = List Member → List (List ℤ) → List ℤ → CellOutcome

-- a part of a concat, its own box and its place
pub record PartCells : Type 0 where
  pub cells : NodeCells
  pub own : Box
  pub place : Box

abbrev pub oid_of_member : Member → ℕ
oid_of_member member = member.oid

-- a box without axes is kept as none
abbrev pub axes_kept : Option Box → Box
axes_kept None = []
axes_kept (Some axes) = axes

abbrev pub each_cell : List NodeCells → List Member → List (List ℤ) → List ℤ → Result (List Cell) CellFault
each_cell [] row points p = Ok []
each_cell (e ∷ es) row points p = do
  x ← e row points p
  xs ← each_cell es row points p
  Ok (x ∷ xs)

-- the cells side by side
abbrev pub composed_of : Result (List Cell) CellFault → CellOutcome
composed_of cells = do
  xs ← cells
  Ok (composite_of xs)

-- the outcome of a condense at a point of its box
abbrev pub condensed_at : NodeCells → List Member → List (List ℤ) → List ℤ → CellOutcome
condensed_at e row points q = e row (points ++ q ∷ []) []

-- the point at which an index looks: each position's number, and the point's coordinates where there is none
abbrev pub positions_by : List (Option NodeCells) → List Member → List (List ℤ) → List ℤ → Result (Option (List ℤ)) CellFault
positions_by [] row points p = Ok (Some [])
positions_by (Some e ∷ positions) row points p = do
  x ← e row points []
  rest ← positions_by positions row points p
  Ok (with_position (position_in x) rest)
positions_by (None ∷ positions) row points [] = Ok (Some [])
positions_by (None ∷ positions) row points (c ∷ p) = do
  rest ← positions_by positions row points p
  Ok (with_position (Some c) rest)

-- the cell of the part whose place has the point
abbrev pub joined_at : List PartCells → NodeCells
joined_at [] row points p = Err IndexOut
joined_at (part ∷ parts) row points p =
    if is_in p part.place then part.cells row points (moved_between part.place part.own p) else joined_at parts row points p

abbrev pub position_step : Position-F NodeCells (Option NodeCells) PartCells → Option NodeCells
position_step (Position-F.At e) = Some e
position_step Position-F.Kept = None

abbrev pub part_step : Part-F NodeCells (Option NodeCells) PartCells → PartCells
part_step part = record { cells = part.e; own = axes_kept part.own; place = axes_kept part.place }

abbrev pub node_step : Node-F NodeCells (Option NodeCells) PartCells → NodeCells
node_step (Node-F.Constant cell) row points p = Ok cell
node_step (Node-F.Faulty fault) row points p = Err fault
node_step (Node-F.Member place) row points p = member_cell (slice_get row place) p
node_step (Node-F.Coordinate variable axis) row points p = coordinate_of (slice_get points variable) axis
node_step (Node-F.Unary op e) row points p = outcome1 op (e row points p)
node_step (Node-F.Cast to e) row points p = do
  x ← e row points p
  cast_to to x
node_step (Node-F.Binary op a b) row points p = outcome2 op (a row points p) (b row points p)
node_step (Node-F.Index e axes positions) row points p = do
  q ← positions_by positions row points p
  cell_in (axes_kept axes) (e row points) q
node_step (Node-F.AtPoint e axes variable) row points p = cell_in (axes_kept axes) (e row points) (slice_get points variable)
node_step (Node-F.Component e part) row points p = do
  x ← e row points p
  component_of x part
node_step (Node-F.If condition e other) row points p = do
  x ← condition row points p
  if holds x then e row points p else other row points p
node_step (Node-F.Composite es) row points p = do
  cells ← each_cell es row points p
  Ok (composite_of cells)
node_step (Node-F.Marray e) row points p = e row (points ++ p ∷ []) []
node_step (Node-F.Condense op axes e) row points p = fold_of op (map (condensed_at e row points) (points_of (axes_kept axes)))
node_step (Node-F.Folded f axes e) row points p = cells_fold_of f (map (e row points) (points_of (axes_kept axes)))
node_step (Node-F.Shift e offsets) row points p = e row points (moved_by (map neg_ℤ offsets.items) p)
node_step (Node-F.Extend e axes zeros) row points p = if is_in p (axes_kept axes) then e row points p else Ok zeros
node_step (Node-F.Concat parts) row points p = joined_at parts row points p

abbrev pub cells_of_node : Node → NodeCells
cells_of_node = fold-Node NodeCells (Option NodeCells) PartCells node_step position_step part_step

abbrev pub position_cells : Position → Option NodeCells
position_cells = fold-Position NodeCells (Option NodeCells) PartCells node_step position_step part_step

abbrev pub part_cells : Part → PartCells
part_cells = fold-Part NodeCells (Option NodeCells) PartCells node_step position_step part_step

-- the outcome at a point, null where there is none
abbrev pub seen_or_null : (List ℤ → CellOutcome) → Option (List ℤ) → CellOutcome
seen_or_null cells None = Ok Null
seen_or_null cells (Some q) = cells q

abbrev pub seen_at : (List ℤ → CellOutcome) → Result (Option (List ℤ)) CellFault → CellOutcome
seen_at cells q = q >>= seen_or_null cells
