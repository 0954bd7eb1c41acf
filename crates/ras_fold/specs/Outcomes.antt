-- What is added of outcomes that stand in a list, at places from a first one on.
use Rattle.std.specs.Prelude.{ℕ, suc, ℤ, List, [], ◌∷◌, Result, Ok, Err}
use Rattle.ras_cells.specs.declared.cell.Cell.{Cell}
use Rattle.ras_cells.specs.declared.cell.CellFault.{CellFault}
use Rattle.spec_expressions.specs.Fold.{number_before}
use Rattle.ras_fold.specs.Summary.{Placed}

-- the numbers of the cells that are neither faults nor null
abbrev pub numbers_among : List (Result Cell CellFault) → List ℤ
numbers_among [] = []
numbers_among (Ok cell ∷ outcomes) = number_before cell (numbers_among outcomes)
numbers_among (Err fault ∷ outcomes) = numbers_among outcomes

-- the faults and their places
abbrev pub faults_among : ℕ → List (Result Cell CellFault) → List Placed
faults_among place [] = []
faults_among place (Ok cell ∷ outcomes) = faults_among (suc place) outcomes
faults_among place (Err fault ∷ outcomes) = (place, fault) ∷ faults_among (suc place) outcomes
