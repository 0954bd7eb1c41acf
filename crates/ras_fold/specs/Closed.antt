-- The outcome of a fold, from what is kept of its numbers.
use Rattle.std.specs.Prelude.{ℤ, Option, Some, None, Result, Ok, Err}
use Rattle.ras_cells.specs.declared.cell.Cell.{Cell}
use Rattle.ras_cells.specs.declared.cell.Cell.TheVariants.{Null}
use Rattle.ras_cells.specs.declared.cell.CellFault.{CellFault}
use Rattle.ras_cells.specs.declared.cell.CellFault.TheVariants.{Overflow}
use Rattle.ras_syntax.specs.declared.expr.FoldOp.{FoldOp}
use Rattle.ras_syntax.specs.declared.expr.FoldOp.TheVariants.{Min, Max}
use Rattle.spec_expressions.specs.Fold.{wide_cell}

abbrev pub closed_from : FoldOp → Option ℤ → Result Cell CellFault
closed_from op (Some z) = wide_cell z
closed_from Min None = Ok Null
closed_from Max None = Ok Null
closed_from op None = Err Overflow
