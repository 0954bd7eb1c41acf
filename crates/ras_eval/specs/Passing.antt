-- Which rows of a statement pass its condition.
use Rattle.std.specs.Prelude.{ℕ, Bool, if◌then◌else◌, List, [], ◌∷◌, ◌++◌, map, Result, Ok, Err}
use Rattle.ras_cells.specs.declared.cell.CellFault.{CellFault}
use Rattle.ras_cells.specs.Outcomes.{◌>>=◌}
use Rattle.spec_expressions.specs.Tree.{Condition}
use Rattle.spec_statements.specs.Effects.{row_identifiers}
use Rattle.spec_statements.specs.Limits.{limited_rows}
use Rattle.spec_statements.specs.Phases.{passing_rows, shaped_condition}
use Rattle.spec_statements.specs.Reply.{Reply, faulty}
use Rattle.spec_statements.specs.Rows.{Row, passes, where_of}
use Rattle.spec_statements.specs.Statement.{StatementTree}

-- the number of a row and the identifiers of its arrays
abbrev pub row_named_of : ℕ × Row → ℕ × List ℕ
row_named_of row = (row.0, row_identifiers row.1)

abbrev pub rows_named_of : List (ℕ × Row) → List (ℕ × List ℕ)
rows_named_of rows = map row_named_of rows

-- the rows that pass, by their numbers and identifiers, or the first reply that comes before
abbrev pub passing_named : Condition → List (ℕ × Row) → Result (List (ℕ × List ℕ)) Reply
passing_named condition rows = do
  passing ← passing_rows condition rows
  Ok (rows_named_of passing)

-- whether a row passes
abbrev pub tested_in_row : ℕ → Result Bool CellFault → Result Bool Reply
tested_in_row k (Ok keeps) = Ok keeps
tested_in_row k (Err fault) = Err (faulty k [] fault)

abbrev pub row_passes : Condition → ℕ × Row → Result Bool Reply
row_passes condition row = tested_in_row row.0 (passes condition row.1)

-- the rows that pass of all rows, whatever the lists of locks: too many rows, or else the first row in which the condition
-- has no shape, or else the first one in which it has a fault, is the reply that comes before
abbrev pub passing_over : StatementTree → List Row → Result (List (ℕ × List ℕ)) Reply
passing_over statement all = do
  rows ← limited_rows statement all
  shaped ← shaped_condition (where_of statement.request) rows
  passing_named (where_of statement.request) shaped

-- a row that passes is put at the end of others
abbrev pub with_row_if : Bool → List (ℕ × List ℕ) → ℕ × Row → List (ℕ × List ℕ)
with_row_if keeps names row = if keeps then names ++ row_named_of row ∷ [] else names
