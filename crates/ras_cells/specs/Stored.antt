-- Stored numbers. An array keeps a number for each component of each cell; a null set says which numbers read as null.
use Rattle.std.specs.Prelude.{◌≡◌, ℤ, pos, ◌≤ℤ◌, int_le, Bool, ◌==◌, ◌&&◌, if◌then◌else◌, List, [], ◌∷◌, length, replicate, Option, Some, None, unwrap_or, Result, Ok, Err, All}
use Rattle.std.specs.List.{list_any}
use Rattle.arrayvec.specs.ArrayVec.{ArrayVec}
use Rattle.ras_cells.specs.declared.atom.Atom.{Atom}
use Rattle.ras_cells.specs.declared.cell.Cell.{Cell}
use Rattle.ras_cells.specs.declared.cell.Cell.TheVariants.{Null, Value}
use Rattle.ras_cells.specs.declared.cell.CellType.{CellType}
use Rattle.ras_cells.specs.declared.cell.CellType.TheVariants as types
use Rattle.ras_cells.specs.declared.cell.CellFault.{CellFault}
use Rattle.ras_cells.specs.declared.cell.CellFault.TheVariants.{CastRange, NullStore}
use Rattle.ras_cells.specs.Atoms.{are_in_range, IsInRange}
use Rattle.ras_cells.specs.Cells.{only}

abbrev pub Numbers : Type 0
Numbers = ArrayVec ℤ

abbrev pub NullSet : Type 0
NullSet = ArrayVec (ℤ × ℤ)

-- the atoms of a type's components, in order
abbrev pub atoms_of : CellType → List Atom
atoms_of (types.Atom atom) = atom ∷ []
atoms_of (types.Composite atoms) = atoms.items

-- ---- null values

-- the number lies in an interval of the null set
abbrev pub is_null_number : List (ℤ × ℤ) → ℤ → Bool
is_null_number nulls z = list_any (λ ends. int_le ends.0 z && int_le z ends.1) nulls

-- a cell of one number is null where that is a null value. Composite cells have no null values
abbrev pub reads_as_null : List ℤ → List (ℤ × ℤ) → Bool
reads_as_null numbers nulls = (length numbers == 1) && is_null_number nulls (only numbers)

-- the first null value: the lower end of the first interval
abbrev pub first_null : List (ℤ × ℤ) → Option ℤ
first_null [] = None
first_null (ends ∷ others) = Some ends.0

-- a null set that a type may have: the intervals hold numbers of the atom, and a composite type has none
abbrev pub IsNullSetOf : CellType → List (ℤ × ℤ) → Type 0
IsNullSetOf (types.Atom atom) nulls =
    All (λ ends. IsInRange atom ends.0 × IsInRange atom ends.1 × (ends.0 ≤ℤ ends.1)) nulls
IsNullSetOf (types.Composite atoms) nulls = nulls ≡ []

-- ---- reading and storing

abbrev pub read_of : Numbers → NullSet → Cell
read_of numbers nulls = if reads_as_null numbers.items nulls.items then Null else Value numbers

-- null, or a number for each component of the type
abbrev pub HasWidthOf : CellType → Cell → Type 0
HasWidthOf of Null = Unit {0}
HasWidthOf of (Value numbers) = length numbers.items ≡ length (atoms_of of)

-- this number for each component
abbrev pub filled_with : CellType → ℤ → Numbers
filled_with of z = record { items = replicate (length (atoms_of of)) z }

abbrev pub null_stored : CellType → Option ℤ → Result Numbers CellFault
null_stored of None = Err NullStore
null_stored of (Some z) = Ok (filled_with of z)

-- null is stored as the first null value, and a number as itself, where its component's atom has it
abbrev pub stored_of : Cell → CellType → NullSet → Result Numbers CellFault
stored_of Null of nulls = null_stored of (first_null nulls.items)
stored_of (Value numbers) of nulls = if are_in_range (atoms_of of) numbers.items then Ok numbers else Err CastRange

-- the first null value, or zeros where there is none
abbrev pub default_of : CellType → NullSet → Numbers
default_of of nulls = filled_with of (unwrap_or (first_null nulls.items) (pos 0))
