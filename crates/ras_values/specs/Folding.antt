-- Points that an index looks at, a coordinate after another; and folds over the points of a box, a point after another.
use Rattle.std.specs.Prelude.{◌≡◌, ◌≤◌, ◌<◌, ℕ, ℤ, List, [], ◌∷◌, ◌++◌, map, drop, length, slice_get, Option, Some, None, Ok}
use Rattle.ras_cells.specs.Outcomes.{◌>>=◌}
use Rattle.ras_domain.specs.Region.{points_of}
use Rattle.spec_expressions.specs.Eval.{CellOutcome}
use Rattle.spec_expressions.specs.Fold.{numbers_in}
use Rattle.spec_expressions.specs.Shape.{Box}
use Rattle.ras_values.specs.declared.tally.Tally.{Tally}
use Rattle.ras_values.specs.Tallies.{HasAdded}

-- one more coordinate at the end, and no point where one is null
abbrev pub added_to : Option (List ℤ) → Option ℤ → Option (List ℤ)
added_to None z = None
added_to (Some zs) None = None
added_to (Some zs) (Some z) = Some (zs ++ z ∷ [])

-- the point at this place of the box, where there is one
abbrev pub IsAtPlace : Box → ℕ → List ℤ → Type 0
IsAtPlace axes place q = place < length (points_of axes) → slice_get (points_of axes) place ≡ Some q

-- the numbers at the first points of the box were added, and there was no fault
pub record IsFolding (cells : List ℤ → CellOutcome) (axes : Box) (place : ℕ) (tally : Tally) : Type 0 where
  pub numbers : List ℤ
  pub rest : numbers_in (map cells (points_of axes)) ≡ (numbers_in (map cells (drop place (points_of axes))) >>= λ zs. Ok (numbers ++ zs))
  pub added : HasAdded tally numbers
  pub few : tally.summary.count ≤ place
