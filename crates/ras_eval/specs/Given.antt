-- How what the code answers stands for what the definitions say. Want of memory stands for nothing: it may come at any call.
use Rattle.std.specs.Prelude.{◌≡◌, ℕ, ℤ, List, Option, Result, Ok, Err}
use Rattle.ras_cells.specs.declared.cell.CellFault.{CellFault}
use Rattle.ras_eval.specs.declared.stops.CellStop.{CellStop}
use Rattle.ras_eval.specs.declared.stops.CellStop.TheVariants.{Fault, Memory}
use Rattle.ras_values.specs.declared.error.CellError.{CellError}
use Rattle.ras_values.specs.declared.error.CellError.TheVariants as errors
use Rattle.ras_rows.specs.declared.stop.Stop.{Stop}
use Rattle.ras_rows.specs.declared.stop.Stop.TheVariants as stops
use Rattle.ras_syntax.specs.declared.answer.Answer.TheVariants as answers
use Rattle.arrayvec.specs.ArrayVec.{ArrayVec}
use Rattle.ras_values.specs.Given.{StopsWith}

-- the stop is the fault that is wanted, at its point, or want of memory
abbrev pub IsCellStop : {B : Type 0} → Result B (List ℤ × CellFault) → CellStop → Type 0
IsCellStop wanted (Fault point fault) = wanted ≡ Err (point.items, fault)
IsCellStop wanted Memory = Unit {0}

-- the answer, seen by a view of it, is the outcome that is wanted, or want of memory
abbrev pub GivesCells : {A B : Type 0} → (A → B) → Result B (List ℤ × CellFault) → Result A CellStop → Type 0
GivesCells view wanted (Ok a) = wanted ≡ Ok (view a)
GivesCells view wanted (Err stop) = IsCellStop wanted stop

-- there is something to store, or the fault is the one that is wanted
abbrev pub IsStorable : Result (Option (List ℤ)) CellFault → Result (Unit {0}) CellError → Type 0
IsStorable wanted (Ok u) = (stored : Option (List ℤ)) × (wanted ≡ Ok stored)
IsStorable wanted (Err error) = StopsWith wanted error

-- the stop at an error of the cell at a point
abbrev pub stop_of_error : ArrayVec ℤ → CellError → CellStop
stop_of_error p (errors.Fault fault) = Fault p fault
stop_of_error p errors.Memory = Memory

-- the stop of a statement in the row of a number
abbrev pub reply_stop : ℕ → CellStop → Stop
reply_stop row (Fault point fault) = stops.Answer (answers.Fault row point fault)
reply_stop row Memory = stops.Memory
