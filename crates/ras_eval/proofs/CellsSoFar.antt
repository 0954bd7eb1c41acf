-- The cells at the first points of a region.
use Rattle.std.proofs.Common.{◌≡◌, ◌⊎◌, inl, inr, ℕ, suc, ◌+◌, ◌<◌, ◌≤◌, List, [], ◌∷◌, ◌++◌, length, drop, Some, None, Option, refl, sym, ap, ◌∙◌, subst, arith}
use Rattle.std.specs.Prelude.{ℤ, Ok, IfSome}
use Rattle.std.specs.List.{slice_get}
use Rattle.std.proofs.lemmas.List.{length-append}
use Rattle.std.proofs.lemmas.Option.{slice_get_cases}
use Rattle.ras_cells.specs.declared.cell.Cell.{Cell}
use Rattle.ras_syntax.specs.CellList.{Cells}
use Rattle.ras_eval.specs.Cells.{CellStore, cell_for, cells_for}
use Rattle.ras_eval.specs.Given.{IsCellStop}
use Rattle.ras_eval.specs.declared.stops.CellStop.{CellStop}
use Rattle.ras_eval.proofs.Each.{after, cell_stops, each_end, each_start, each_turn}
use Rattle.spec_expressions.specs.Eval.{CellOutcome}

-- the cells at the first points are in the list, which has room for all, and the point at the next place is known
pub record IsSoFar (store : CellStore) (cells : List ℤ → CellOutcome) (points : List (List ℤ)) (count width place : ℕ) (list : Cells) (p : List ℤ) (scope : List (List ℤ)) : Type 0 where
  pub done : after list.cells (cells_for store cells (drop place points)) ≡ cells_for store cells points
  pub long : length list.cells ≡ place
  pub room : list.room ≡ count
  pub wide : list.width ≡ width
  pub whole : count ≡ length points
  pub at : place < length points → slice_get points place ≡ Some p
  pub nothing : scope ≡ []

module _ (store : CellStore) (over : List (List ℤ) → List ℤ → CellOutcome) (points : List (List ℤ)) (count width : ℕ) where
  pub so_far_first : (list : Cells) (p : List ℤ) (scope : List (List ℤ)) → list ≡ record { width = width; cells = []; room = count } → count ≡ length points
      → slice_get points 0 ≡ Some p → scope ≡ [] → IsSoFar store (over []) points count width 0 list p scope
  so_far_first list p scope is whole at nothing =
      record {
        done = subst (λ (l : Cells). after l.cells (cells_for store (over []) points) ≡ cells_for store (over []) points) (sym is) (each_start (cell_for store (over [])) points);
        long = ap (λ (l : Cells). length l.cells) is;
        room = ap (λ (l : Cells). l.room) is;
        wide = ap (λ (l : Cells). l.width) is;
        whole = whole;
        at = λ _. at;
        nothing = nothing;
      }

  module _ (place : ℕ) (list : Cells) (p : List ℤ) (scope : List (List ℤ)) (h : IsSoFar store (over []) points count width place list p scope) where
    pub so_far_turn : (x : Cell) (new : Cells) (q : List ℤ) (left : List (List ℤ)) → place < count → cell_for store (over scope) p ≡ Ok x
        → new ≡ record list { cells = list.cells ++ x ∷ [] } → IfSome (slice_get points (place + 1)) (λ next. next ≡ q) → left ≡ scope
        → IsSoFar store (over []) points count width (place + 1) new q left
    so_far_turn x new q left below is new_is next same =
        record {
          done = each_turn (cell_for store (over [])) points list.cells new.cells place p x (h.at (omega (arith, h.whole)))
              (ap (λ (s : List (List ℤ)). cell_for store (over s) p) (sym h.nothing) ∙ is) (ap (λ (l : Cells). l.cells) new_is) h.done;
          long = ap (λ (l : Cells). length l.cells) new_is ∙ length-append list.cells (x ∷ []) ∙ ap (λ n. n + 1) h.long;
          room = ap (λ (l : Cells). l.room) new_is ∙ h.room;
          wide = ap (λ (l : Cells). l.width) new_is ∙ h.wide;
          whole = h.whole;
          at = at_next (slice_get points (place + 1)) refl next;
          nothing = same ∙ h.nothing;
        }
      where
        at_next : (o : Option (List ℤ)) → slice_get points (place + 1) ≡ o → IfSome o (λ next. next ≡ q) → place + 1 < length points → slice_get points (place + 1) ≡ Some q
        at_next (Some r) e same_q within = e ∙ ap Some same_q
        at_next None e same_q within =
            elim (slice_get_cases points (place + 1)).1 [
              | inl found ↦ let some : slice_get points (place + 1) ≡ Some found.0 = found.2 in cc
              | inr past ↦ absurd (omega (arith, past.0, within))
            ]

    pub so_far_stop : (stop : CellStop) → place < count → IsCellStop (cell_for store (over scope) p) stop → IsCellStop (cells_for store (over []) points) stop
    so_far_stop stop below stops =
        cell_stops (cell_for store (over [])) points list.cells place p stop (h.at (omega (arith, h.whole)))
        (subst (λ (s : List (List ℤ)). IsCellStop (cell_for store (over s) p) stop) h.nothing stops) h.done

    pub so_far_end : count ≤ place → cells_for store (over []) points ≡ Ok list.cells
    so_far_end past = each_end (cell_for store (over [])) points list.cells place (omega (arith, h.whole, past)) h.done
