-- The places of tiles, as the code has them.
use Rattle.std.specs.Prelude.{ℕ, ℤ, Bool, not, List, map}
use Rattle.arrayvec.specs.ArrayVec.{ArrayVec}
use Rattle.ras_domain.specs.Boxes.{is_same_box}
use Rattle.ras_grid.specs.Grid.{tile_in}
use Rattle.spec_expressions.specs.Shape.{Box}

-- the coordinates of points
abbrev pub points_held : List (ArrayVec ℤ) → List (List ℤ)
points_held points = map (λ point. point.items) points

-- whether the tile at a place has another box in the new domain than in the old one
abbrev pub box_changes : List ℕ → Box → Box → List ℤ → Bool
box_changes extents old new place = not (is_same_box (tile_in extents old place) (tile_in extents new place))
