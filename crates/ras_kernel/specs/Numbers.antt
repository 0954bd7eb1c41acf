-- What is computed on numbers alone, before null flags are looked at.
use Rattle.std.specs.Prelude.{◌≡◌, ◌<◌, ◌≤◌, ℕ, ℤ, Bool, true, false, ◌||◌, List, Result, Ok}
use Rattle.ras_cells.specs.declared.cell.Cell.{Cell}
use Rattle.ras_cells.specs.declared.cell.Cell.TheVariants.{Null}
use Rattle.ras_cells.specs.declared.cell.CellFault.{CellFault}
use Rattle.ras_cells.specs.Cells.{single}
use Rattle.ras_cells.specs.Numbers.{is_zero}
use Rattle.ras_cells.specs.Outcomes.{◌>>=◌}
use Rattle.ras_kernel.specs.Runs.{is_null, run_number}

-- none of these outcomes of a block is a fault, and the numbers are theirs
abbrev pub AreOutcomes : (ℕ → Result ℤ CellFault) → ℕ → ℕ → List ℤ → Type 0
AreOutcomes outcomes from to numbers = (i : ℕ) → from ≤ i → i < to → outcomes i ≡ Ok (run_number numbers i)

-- the cell of a number's outcome; a null hides a fault
abbrev pub unless_null : Bool → Result ℤ CellFault → Result Cell CellFault
unless_null true outcome = Ok Null
unless_null false outcome = do
  number ← outcome
  Ok (single number)

-- an overlay takes its first cell where the second is null or 0
abbrev pub gives_way : List ℤ → List Bool → ℕ → Bool
gives_way numbers nulls i = is_null nulls i || is_zero (run_number numbers i)
