-- Runs of cells: a number for each place, and null flags, one for each place or none at all where no place is null.
use Rattle.std.specs.Prelude.{◌≡◌, ◌<◌, ℕ, ℤ, pos, Bool, false, if◌then◌else◌, List, length, slice_index_or, Result, Ok, Err}
use Rattle.ras_cells.specs.declared.cell.Cell.{Cell}
use Rattle.ras_cells.specs.declared.cell.Cell.TheVariants.{Null}
use Rattle.ras_cells.specs.declared.cell.CellFault.{CellFault}
use Rattle.ras_cells.specs.declared.run.Run.{Run}
use Rattle.ras_cells.specs.declared.run.Run.TheVariants.{Uniform, U8, I8, U16, I16, U32, I32, Plain}
use Rattle.ras_cells.specs.Cells.{single}

-- there are flags for this many places, or none
abbrev pub AreFlagsOf : List Bool → ℕ → Type 0
AreFlagsOf nulls n = 0 < length nulls → length nulls ≡ n

abbrev pub is_null : List Bool → ℕ → Bool
is_null nulls i = slice_index_or nulls i false

abbrev pub run_number : List ℤ → ℕ → ℤ
run_number numbers i = slice_index_or numbers i (pos 0)

-- the cell at a place: null where its flag says so, whatever the number there
abbrev pub run_cell : List ℤ → List Bool → ℕ → Cell
run_cell numbers nulls i = if is_null nulls i then Null else single (run_number numbers i)

-- the places below n hold the cells that are the outcomes there
abbrev pub HoldsBelow : (ℕ → Result Cell CellFault) → ℕ → List ℤ → List Bool → Type 0
HoldsBelow outcomes n numbers nulls = (i : ℕ) → i < n → outcomes i ≡ Ok (run_cell numbers nulls i)

-- the least place that faults, with its fault; the places before it hold their outcomes
pub record StopsAt (outcomes : ℕ → Result Cell CellFault) (n : ℕ) (stop : ℕ × CellFault) (numbers : List ℤ) (nulls : List Bool) : Type 0 where
  pub within : stop.0 < n
  pub fault : outcomes stop.0 ≡ Err stop.1
  pub before : HoldsBelow outcomes stop.0 numbers nulls

-- what is computed for n places: all outcomes, or those before the first that is a fault
abbrev pub IsRun : (ℕ → Result Cell CellFault) → ℕ → Result (Unit {0}) (ℕ × CellFault) → List ℤ → List Bool → Type 0
IsRun outcomes n (Ok done) numbers nulls = HoldsBelow outcomes n numbers nulls
IsRun outcomes n (Err stop) numbers nulls = StopsAt outcomes n stop numbers nulls
