-- What a fold makes of the outcomes at its points, listed in row-major order.
use Rattle.std.specs.Prelude.{ℤ, pos, ◌+ℤ◌, ◌*ℤ◌, List, [], ◌∷◌, Result, Ok, count_by}
use Rattle.std.specs.Int.{from_bool, int_min, int_max}
use Rattle.std.specs.List.{fold, list_all, list_any}
use Rattle.ras_cells.specs.declared.cell.Cell.{Cell}
use Rattle.ras_cells.specs.declared.cell.Cell.TheVariants.{Null, Value}
use Rattle.ras_cells.specs.declared.cell.CellFault.{CellFault}
use Rattle.ras_cells.specs.Cells.{single, only}
use Rattle.ras_cells.specs.Numbers.{as_wide, is_true}
use Rattle.ras_cells.specs.Outcomes.{◌>>=◌}
use Rattle.ras_syntax.specs.declared.expr.FoldOp.{FoldOp}
use Rattle.ras_syntax.specs.declared.expr.FoldOp.TheVariants.{Plus, Times, Min, Max, And, Or}
use Rattle.ras_syntax.specs.declared.expr.CellsFold.{CellsFold}
use Rattle.ras_syntax.specs.declared.expr.CellsFold.TheVariants.{Add, Count, AnyTrue, AllTrue, Min as MinCells, Max as MaxCells}

-- the number of a cell before others; a null is skipped
abbrev pub number_before : Cell → List ℤ → List ℤ
number_before Null zs = zs
number_before (Value numbers) zs = only numbers.items ∷ zs

-- the numbers of the cells that aren't null, or the first fault
abbrev pub numbers_in : List (Result Cell CellFault) → Result (List ℤ) CellFault
numbers_in [] = Ok []
numbers_in (outcome ∷ outcomes) = do
  cell ← outcome
  zs ← numbers_in outcomes
  Ok (number_before cell zs)

-- the cell of an exact number, where it is one of 64 bits
abbrev pub wide_cell : ℤ → Result Cell CellFault
wide_cell z = do
  number ← as_wide z
  Ok (single number)

-- only the exact sum or product must be a number of 64 bits, and none of the numbers on the way
abbrev pub folded_of : FoldOp → List ℤ → Result Cell CellFault
folded_of Plus zs = wide_cell (fold (λ x y. x +ℤ y) (pos 0) zs)
folded_of Times zs = wide_cell (fold (λ x y. x *ℤ y) (pos 1) zs)
folded_of Min [] = Ok Null
folded_of Min (z ∷ zs) = Ok (single (fold int_min z zs))
folded_of Max [] = Ok Null
folded_of Max (z ∷ zs) = Ok (single (fold int_max z zs))
folded_of And zs = Ok (single (pos (from_bool (list_all is_true zs))))
folded_of Or zs = Ok (single (pos (from_bool (list_any is_true zs))))

-- the fold of a condense; where its condition isn't true, a point's outcome counts as null
abbrev pub fold_of : FoldOp → List (Result Cell CellFault) → Result Cell CellFault
fold_of op outcomes = do
  zs ← numbers_in outcomes
  folded_of op zs

-- the fold of all cells of an array
abbrev pub cells_folded_of : CellsFold → List ℤ → Result Cell CellFault
cells_folded_of Add zs = folded_of Plus zs
cells_folded_of MinCells zs = folded_of Min zs
cells_folded_of MaxCells zs = folded_of Max zs
cells_folded_of Count zs = wide_cell (pos (count_by is_true zs))
cells_folded_of AnyTrue zs = folded_of Or zs
cells_folded_of AllTrue zs = folded_of And zs

abbrev pub cells_fold_of : CellsFold → List (Result Cell CellFault) → Result Cell CellFault
cells_fold_of f outcomes = do
  zs ← numbers_in outcomes
  cells_folded_of f zs
