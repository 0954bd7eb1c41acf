-- Lists of cells of one width, and how their numbers are kept one after another.
use Rattle.std.specs.Prelude.{◌≡◌, ◌≤◌, ◌*◌, ℕ, ℤ, min, Bool, true, false, List, [], ◌∷◌, length, take, drop, All}
use Rattle.ras_cells.specs.declared.cell.Cell.{Cell}
use Rattle.ras_cells.specs.declared.cell.Cell.TheVariants.{Null, Value}
use Rattle.ras_cells.specs.declared.TheConstants.{MAX_COMPONENTS}

-- how many numbers a cell has that isn't null, the cells in order, and how many cells there is room for
pub record Cells : Type 0 where
  pub width : ℕ
  pub cells : List Cell
  pub room : ℕ

-- null, or so many numbers
abbrev pub HasWidth : ℕ → Cell → Type 0
HasWidth width Null = Unit {0}
HasWidth width (Value numbers) = length numbers.items ≡ width

-- ---- how the cells are kept

-- how many numbers are kept for each cell. No cell has more than 8
abbrev pub stride_of : ℕ → ℕ
stride_of width = min width MAX_COMPONENTS

-- the cell of these kept numbers, where it isn't null
abbrev pub cell_from : Bool → List ℤ → Cell
cell_from true numbers = Null
cell_from false numbers = Value (record { items = numbers })

-- the cells whose numbers stand one after another, so many for each
abbrev pub cells_from : ℕ → List ℤ → List Bool → List Cell
cells_from stride numbers [] = []
cells_from stride numbers (is_null ∷ nulls) =
    cell_from is_null (take stride numbers) ∷ cells_from stride (drop stride numbers) nulls

-- what is kept, in vectors with room for so many numbers and so many cells
pub record IsKept (width room : ℕ) (numbers : List ℤ) (nulls : List Bool) (numbers_room nulls_room : ℕ) : Type 0 where
  pub whole : length numbers ≡ stride_of width * length nulls
  pub within : length nulls ≤ room
  pub numbers_fit : stride_of width * room ≤ numbers_room
  pub nulls_fit : room ≤ nulls_room
  pub widths : All (HasWidth width) (cells_from (stride_of width) numbers nulls)
