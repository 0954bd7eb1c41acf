-- Values of static expressions, from those of their parts.
use Rattle.std.specs.Prelude.{slice_get, Result, Ok, Err}
use Rattle.ras_cells.specs.declared.cell.CellFault.TheVariants.{Overflow}
use Rattle.ras_cells.specs.declared.numbers.Op1.{Op1}
use Rattle.ras_cells.specs.declared.numbers.Op2.{Op2}
use Rattle.ras_cells.specs.Numbers.{of_number, of_numbers}
use Rattle.ras_cells.specs.Outcomes.{◌>>=◌}
use Rattle.spec_expressions.specs.Tree.{Side}
use Rattle.spec_expressions.specs.Shape.{Bound, Shape, ShapeMisfit, box_of, side_of}

abbrev pub value_of_operand : Op1 → Bound → Bound
value_of_operand op a = a >>= of_number op

abbrev pub value_of_both : Op2 → Bound → Bound → Bound
value_of_both op a b = do
  x ← a
  y ← b
  of_numbers op x y

-- a bound of the first axis of a shape
abbrev pub first_side : Side → Result Shape ShapeMisfit → Bound
first_side side (Ok shape) = side_of side (slice_get (box_of shape) 0)
first_side side (Err misfit) = Err Overflow
