-- How what the code answers stands for an outcome of the definitions. Want of memory stands for nothing: it may come at any call.
use Rattle.std.specs.Prelude.{◌≡◌, ℤ, Bool, if◌then◌else◌, List, Option, Some, None, option_map, Result, Ok, Err}
use Rattle.ras_cells.specs.declared.cell.Cell.{Cell}
use Rattle.ras_cells.specs.declared.cell.CellFault.{CellFault}
use Rattle.ras_cells.specs.declared.cell.CellFault.TheVariants.{IndexOut}
use Rattle.ras_cells.specs.declared.atom.Atom.{Atom}
use Rattle.ras_cells.specs.Cells.{cast_to}
use Rattle.ras_cells.specs.Outcomes.{◌>>=◌}
use Rattle.ras_domain.specs.Region.{is_in}
use Rattle.arrayvec.specs.ArrayVec.{ArrayVec}
use Rattle.spec_expressions.specs.Shape.{Box}
use Rattle.spec_expressions.specs.Eval.{component_of, holds}
use Rattle.ras_values.specs.declared.error.CellError.{CellError}
use Rattle.ras_values.specs.declared.error.CellError.TheVariants.{Fault, Memory}

-- the error is the fault that is wanted, or want of memory
abbrev pub StopsWith : {B : Type 0} → Result B CellFault → CellError → Type 0
StopsWith wanted (Fault fault) = wanted ≡ Err fault
StopsWith wanted Memory = Unit {0}

-- the answer, seen by a view of it, is the outcome that is wanted, or want of memory
abbrev pub GivesSeen : {A B : Type 0} → (A → B) → Result B CellFault → Result A CellError → Type 0
GivesSeen view wanted (Ok a) = wanted ≡ Ok (view a)
GivesSeen view wanted (Err error) = StopsWith wanted error

abbrev pub GivesCell : Result Cell CellFault → Result Cell CellError → Type 0
GivesCell = GivesSeen (λ cell. cell)

-- whatever outcome stands behind the answer of a part, what is made of it stands behind the answer of the whole
abbrev pub Makes : (Result Cell CellFault → Result Cell CellFault) → Result Cell CellError → Result Cell CellError → Type 0
Makes step e result = (wanted : Result Cell CellFault) → GivesCell wanted e → GivesCell (step wanted) result

abbrev pub MakesOfBoth : (Result Cell CellFault → Result Cell CellFault → Result Cell CellFault) → Result Cell CellError → Result Cell CellError → Result Cell CellError → Type 0
MakesOfBoth step a b result = (x y : Result Cell CellFault) → GivesCell x a → GivesCell y b → GivesCell (step x y) result

-- ---- steps

abbrev pub cast_outcome : Atom → Result Cell CellFault → Result Cell CellFault
cast_outcome to e = do
  x ← e
  cast_to to x

abbrev pub component_in : ℤ → Result Cell CellFault → Result Cell CellFault
component_in part e = do
  x ← e
  component_of x part

-- whether a condition holds
abbrev pub tested : Result Cell CellFault → Result Bool CellFault
tested e = do
  x ← e
  Ok (holds x)

-- a point is one of a box, or there is none, as a coordinate is null
abbrev pub point_in : Box → Option (List ℤ) → Result (Option (List ℤ)) CellFault
point_in axes None = Ok None
point_in axes (Some q) = if is_in q axes then Ok (Some q) else Err IndexOut

abbrev pub looked_up : Box → Result (Option (List ℤ)) CellFault → Result (Option (List ℤ)) CellFault
looked_up axes q = q >>= point_in axes

abbrev pub point_seen : Option (ArrayVec ℤ) → Option (List ℤ)
point_seen q = option_map (λ p. p.items) q
