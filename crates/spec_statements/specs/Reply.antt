-- What the definitions see of an answer: the reply, whatever room the lists of an answer in memory have.
use Rattle.std.specs.Prelude.{ℕ, ℤ, List, map}
use Rattle.ras_cells.specs.declared.cell.Cell.{Cell}
use Rattle.ras_cells.specs.declared.cell.CellFault.{CellFault}
use Rattle.ras_syntax.specs.declared.span.Span.{Span}
use Rattle.ras_syntax.specs.declared.faults.CheckFault.{CheckFault}
use Rattle.ras_syntax.specs.declared.faults.ShapeFault.{ShapeFault}
use Rattle.spec_expressions.specs.Shape.{Box}
use Rattle.ras_syntax.specs.declared.answer.Answer.{Answer}
use Rattle.ras_syntax.specs.declared.answer.Answer.TheVariants.{Value, Done, Fault, Shape, Check}
use Rattle.ras_syntax.specs.declared.answer.RowValue.{RowValue}
use Rattle.ras_syntax.specs.declared.answer.RowValue.TheVariants.{Scalar, Domain, Array}

-- what a select gives for a row: a cell, a domain, or an array with its cells in row-major order
pub data RowReply : Type 0 where
  one_cell : Cell → RowReply
  one_domain : Box → RowReply
  all_cells : Box → List Cell → RowReply

pub data Reply : Type 0 where
  values : List RowReply → Reply
  done : ℕ → Reply
  -- a row, the point in it and the fault of its cell
  faulty : ℕ → List ℤ → CellFault → Reply
  -- a row, 0 for the statement as a whole, and a place in the text
  misfit : ℕ → Span → ShapeFault → Reply
  unchecked : Span → CheckFault → Reply

-- an answer by values or as done
abbrev pub IsSuccess : Reply → Type 0
IsSuccess (values rows) = Unit {0}
IsSuccess (done n) = Unit {0}
IsSuccess (faulty k p fault) = ⊥
IsSuccess (misfit k span fault) = ⊥
IsSuccess (unchecked span fault) = ⊥

-- ---- answers in memory

abbrev pub row_reply_of : RowValue → RowReply
row_reply_of (Scalar cell) = one_cell cell
row_reply_of (Domain axes) = one_domain axes
row_reply_of (Array axes cells) = all_cells axes cells.cells

abbrev pub reply_of_answer : Answer → Reply
reply_of_answer (Value rows) = values (map row_reply_of rows)
reply_of_answer (Done n) = done n
reply_of_answer (Fault row point fault) = faulty row point.items fault
reply_of_answer (Shape row span fault) = misfit row span fault
reply_of_answer (Check span fault) = unchecked span fault
