-- What is told of operands one after the other: how many axes the arrays among them have, and their common type.
use Rattle.std.specs.Prelude.{ℕ, ◌==◌, if◌then◌else◌, List, Option, Some, None}
use Rattle.std.specs.List.{fold}
use Rattle.ras_cells.specs.declared.cell.CellType.{CellType}
use Rattle.ras_syntax.specs.declared.typed.Kind.{Kind}
use Rattle.ras_syntax.specs.declared.typed.Kind.TheVariants.{Array}
use Rattle.spec_expressions.specs.Kinds.{on_cells, cell_type_in, join_of}
use Rattle.ras_kinds.specs.declared.lists.Join.{Join}
use Rattle.ras_kinds.specs.declared.lists.Join.TheVariants.{Nothing, Cells, Mismatch}
use Rattle.ras_kinds.specs.declared.rules.Joint.{Joint}
use Rattle.ras_kinds.specs.declared.rules.Joint.TheVariants.{NoArray, Equal, Differing}

-- the same with one more array
abbrev pub joint_with_axes : Joint → ℕ → Joint
joint_with_axes NoArray m = Equal m
joint_with_axes (Equal n) m = if m == n then Equal n else Differing
joint_with_axes Differing m = Differing

-- the same with one more operand
abbrev pub joint_with : Joint → Kind → Joint
joint_with joint (Array cell m) = joint_with_axes joint m
joint_with joint other = joint

-- of these operands
abbrev pub joint_of : List Kind → Joint
joint_of = fold joint_with NoArray

-- operands that have this common type, or none
abbrev pub join_told : Option CellType → Join
join_told None = Mismatch
join_told (Some cell) = Cells cell

-- with one more operand
abbrev pub join_with : Join → Kind → Join
join_with Nothing kind = join_told (cell_type_in kind)
join_with (Cells cell) kind = join_told (on_cells (join_of cell) kind)
join_with Mismatch kind = Mismatch

-- of these operands
abbrev pub join_of_kinds : List Kind → Join
join_of_kinds = fold join_with Nothing
