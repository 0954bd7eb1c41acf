-- Operations on cells. A cell is null or a list of numbers, one a component.
use Rattle.std.specs.Prelude.{◌≡◌, ℤ, pos, if◌then◌else◌, List, [], ◌∷◌, length, Result, Ok}
use Rattle.std.specs.List.{list_all}
use Rattle.ras_cells.specs.declared.atom.Atom.{Atom}
use Rattle.ras_cells.specs.declared.cell.Cell.{Cell}
use Rattle.ras_cells.specs.declared.cell.Cell.TheVariants.{Null, Value}
use Rattle.ras_cells.specs.declared.cell.CellFault.{CellFault}
use Rattle.ras_cells.specs.declared.numbers.Op1.{Op1}
use Rattle.ras_cells.specs.declared.numbers.Op2.{Op2}
use Rattle.ras_cells.specs.declared.numbers.Op2.TheVariants.{Overlay}
use Rattle.ras_cells.specs.Numbers.{of_number, of_numbers, cast_number, is_zero}
use Rattle.ras_cells.specs.Outcomes.{◌>>=◌}

-- the cell of one number
abbrev pub single : ℤ → Cell
single z = Value (record { items = z ∷ [] })

-- null, or one number
abbrev pub IsSingle : Cell → Type 0
IsSingle Null = Unit {0}
IsSingle (Value numbers) = length numbers.items ≡ 1

-- the one number of a single cell
abbrev pub only : List ℤ → ℤ
only [] = pos 0
only (z ∷ zs) = z

-- an overlay takes any two cells, every other operation single ones
abbrev pub Takes : Op2 → Cell → Cell → Type 0
Takes Overlay a b = Unit {0}
Takes op a b = IsSingle a × IsSingle b

-- null where the cell is null
abbrev pub on_number : (ℤ → Result ℤ CellFault) → Cell → Result Cell CellFault
on_number f Null = Ok Null
on_number f (Value a) = do
  z ← f (only a.items)
  Ok (single z)

-- null where a cell is null, also where the numbers have a fault
abbrev pub on_numbers : (ℤ → ℤ → Result ℤ CellFault) → Cell → Cell → Result Cell CellFault
on_numbers f Null b = Ok Null
on_numbers f (Value a) Null = Ok Null
on_numbers f (Value a) (Value b) = do
  z ← f (only a.items) (only b.items)
  Ok (single z)

-- b where it is neither null nor all zeros, else a
abbrev pub overlay_of : Cell → Cell → Cell
overlay_of a Null = a
overlay_of a (Value b) = if list_all is_zero b.items then a else Value b

abbrev pub applied1 : Op1 → Cell → Result Cell CellFault
applied1 op a = on_number (of_number op) a

abbrev pub applied2 : Op2 → Cell → Cell → Result Cell CellFault
applied2 Overlay a b = Ok (overlay_of a b)
applied2 op a b = on_numbers (of_numbers op) a b

abbrev pub cast_to : Atom → Cell → Result Cell CellFault
cast_to atom a = on_number (cast_number atom) a

-- ---- on outcomes: the first operand's fault, then the second's, and only then null and the operation's own fault

abbrev pub outcome1 : Op1 → Result Cell CellFault → Result Cell CellFault
outcome1 op a = do
  x ← a
  applied1 op x

abbrev pub outcome2 : Op2 → Result Cell CellFault → Result Cell CellFault → Result Cell CellFault
outcome2 op a b = do
  x ← a
  y ← b
  applied2 op x y
