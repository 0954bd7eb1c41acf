-- The cell at one point.
use Rattle.std.proofs.Common.{◌≡◌, ℕ, List, [], ◌∷◌, ◌++◌, Result, Ok, Err, refl, sym, ap, ◌∙◌, subst}
use Rattle.std.specs.Prelude.{ℤ, Option}
use Rattle.arrayvec.specs.ArrayVec.{ArrayVec}
use Rattle.ras_cells.specs.declared.cell.Cell.{Cell}
use Rattle.ras_cells.specs.declared.cell.CellFault.{CellFault}
use Rattle.ras_cells.specs.Outcomes.{◌>>=◌}
use Rattle.ras_eval.specs.Cells.{CellStore, cell_for, each_in_order}
use Rattle.ras_syntax.specs.CellList.{Cells}
use Rattle.ras_eval.specs.Given.{IsCellStop, stop_of_error}
use Rattle.ras_eval.specs.declared.stops.CellStop.{CellStop}
use Rattle.ras_eval.specs.declared.stops.CellStop.TheVariants as ends
use Rattle.ras_values.specs.declared.error.CellError.{CellError}
use Rattle.ras_values.specs.declared.error.CellError.TheVariants.{Fault, Memory}
use Rattle.ras_values.specs.Given.{StopsWith}
use Rattle.spec_expressions.specs.Eval.{CellOutcome}
use Rattle.spec_statements.specs.Effects.{at_body_point}

module _ (store : CellStore) (cells : List ℤ → CellOutcome) (p : ArrayVec ℤ) where
  abbrev here : CellOutcome → Result Cell (List ℤ × CellFault)
  here o = at_body_point p.items o >>= λ cell. at_body_point p.items (store cell) >>= λ stored. Ok cell

  pub cell_ok : (x : Cell) (stored : Option (List ℤ)) → cells p.items ≡ Ok x → store x ≡ Ok stored → cell_for store cells p.items ≡ Ok x
  cell_ok x stored is put = ap here is ∙ ap (λ (r : Result (Option (List ℤ)) CellFault). at_body_point p.items r >>= λ s. Ok x) put

  pub cell_fault : (error : CellError) → StopsWith (cells p.items) error → IsCellStop (cell_for store cells p.items) (stop_of_error p error)
  cell_fault (Fault fault) is = ap here is
  cell_fault Memory is = tt

  pub store_fault : (x : Cell) (error : CellError) → cells p.items ≡ Ok x → StopsWith (store x) error → IsCellStop (cell_for store cells p.items) (stop_of_error p error)
  store_fault x (Fault fault) is put = ap here is ∙ ap (λ (r : Result (Option (List ℤ)) CellFault). at_body_point p.items r >>= λ s. Ok x) put
  store_fault x Memory is put = tt

-- the list of one cell
module _ (store : CellStore) (cells : List ℤ → CellOutcome) where
  pub alone_ok : (x : Cell) → cell_for store cells [] ≡ Ok x → each_in_order (cell_for store cells) ([] ∷ []) ≡ Ok (x ∷ [])
  alone_ok x is = ap (λ (r : Result Cell (List ℤ × CellFault)). r >>= λ y. Ok (y ∷ [])) is

  pub alone_stop : (stop : CellStop) → IsCellStop (cell_for store cells []) stop → IsCellStop (each_in_order (cell_for store cells) ([] ∷ [])) stop
  alone_stop (ends.Fault point fault) is = ap (λ (r : Result Cell (List ℤ × CellFault)). r >>= λ y. Ok (y ∷ [])) is
  alone_stop ends.Memory is = tt

  pub alone_list : (x : Cell) (width : ℕ) (list new : Cells) → cell_for store cells [] ≡ Ok x → list ≡ record { width = width; cells = []; room = 1 }
      → new ≡ record list { cells = list.cells ++ x ∷ [] } → each_in_order (cell_for store cells) ([] ∷ []) ≡ Ok new.cells
  alone_list x width list new is empty more =
      alone_ok x is ∙ ap (λ (l : Cells). Ok (l.cells ++ x ∷ [])) (sym empty) ∙ ap (λ (l : Cells). Ok l.cells) (sym more)
