-- Cells that are computed at points, each tested for what becomes of it.
use Rattle.std.specs.Prelude.{◌≡◌, ℤ, List, [], ◌∷◌, Option, Some, None, Result, Ok, Err}
use Rattle.ras_cells.specs.declared.cell.Cell.{Cell}
use Rattle.ras_cells.specs.declared.cell.CellFault.{CellFault}
use Rattle.ras_cells.specs.Outcomes.{◌>>=◌}
use Rattle.ras_eval.specs.declared.purpose.Purpose.{Purpose}
use Rattle.ras_eval.specs.declared.purpose.Purpose.TheVariants.{Answer, Insert, Update}
use Rattle.spec_expressions.specs.Eval.{CellOutcome}
use Rattle.spec_statements.specs.Effects.{at_body_point, insert_store, update_store}

-- what a cell is stored as, where there is something to store
abbrev pub CellStore : Type 0
CellStore = Cell → Result (Option (List ℤ)) CellFault

-- nothing is stored of an answer
abbrev pub stored_for : Purpose → CellStore
stored_for Answer cell = Ok None
stored_for (Insert of) cell = insert_store of.now cell
stored_for (Update of) cell = update_store of.now cell

-- the cell at a point, or its fault, or the fault of its storing
abbrev pub cell_for : CellStore → (List ℤ → CellOutcome) → List ℤ → Result Cell (List ℤ × CellFault)
cell_for store cells p = do
  cell ← at_body_point p (cells p)
  stored ← at_body_point p (store cell)
  Ok cell

-- an outcome for each, or the first fault
abbrev pub each_in_order : {X Y E : Type 0} → (X → Result Y E) → List X → Result (List Y) E
each_in_order step [] = Ok []
each_in_order step (x ∷ xs) = do
  y ← step x
  ys ← each_in_order step xs
  Ok (y ∷ ys)

-- the cells at points, or the first fault
abbrev pub cells_for : CellStore → (List ℤ → CellOutcome) → List (List ℤ) → Result (List Cell) (List ℤ × CellFault)
cells_for store cells = each_in_order (cell_for store cells)
