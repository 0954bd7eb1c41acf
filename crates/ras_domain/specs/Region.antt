-- Boxes of points. A box is a list of intervals, its points are the lists with one coordinate from
-- each interval, and row-major order compares points from the first axis on.
use Rattle.std.specs.Prelude.{◌≡◌, ℕ, ℤ, pos, ◌+ℤ◌, ◌≤ℤ◌, ◌<ℤ◌, ◌≤◌, ◌<◌, ◌⊎◌, List, ◌∷◌, map, length, count_by, flat_map, All, Any, FitsSigned, ◌*◌, int_lt, int_le, Bool, true, false, ◌&&◌, []}
use Rattle.std.specs.Int.{w32, int_gap}
use Rattle.std.specs.List.{range_with_len}
use Rattle.std.specs.Ordering.{int_cmp, is_lt}
use Rattle.std.specs.Cmp.Lexicographic.{slice_cmp}
use Rattle.ras_domain.specs.declared.TheConstants.{MAX_AXES, MAX_POINTS}
use Rattle.ras_domain.specs.declared.region.Interval.{Interval}
use Rattle.ras_domain.specs.declared.region.DomainFault.{DomainFault}
use Rattle.ras_domain.specs.declared.region.DomainFault.TheVariants.{TooManyAxes, BoundOut, Empty, TooLarge}

-- how many whole numbers lie from the lower bound to the upper one
abbrev pub extent_of : Interval → ℕ
extent_of axis = int_gap axis.lo (axis.hi +ℤ pos 1)

-- those numbers, from the lower bound up
abbrev pub coordinates_of : Interval → List ℤ
coordinates_of axis = map (λ k. axis.lo +ℤ pos k) (range_with_len 0 (extent_of axis))

-- the points of a box in row-major order: the last axis runs fastest
abbrev pub points_of : List Interval → List (List ℤ)
points_of [] = [] ∷ []
points_of (axis ∷ axes) = flat_map (λ c. map (λ p. c ∷ p) (points_of axes)) (coordinates_of axis)

-- the point has one coordinate from each interval, and no other
abbrev pub IsIn : List ℤ → List Interval → Type 0
IsIn [] [] = Unit {0}
IsIn (c ∷ p) (axis ∷ axes) = (axis.lo ≤ℤ c) × (c ≤ℤ axis.hi) × IsIn p axes
IsIn [] (axis ∷ axes) = ⊥
IsIn (c ∷ p) [] = ⊥

-- ---- the same, computed

-- how many points a box has
abbrev pub volume_of : List Interval → ℕ
volume_of [] = 1
volume_of (axis ∷ axes) = extent_of axis * volume_of axes

-- whether a point has one coordinate from each interval, and no other
abbrev pub is_in : List ℤ → List Interval → Bool
is_in [] [] = true
is_in (c ∷ p) (axis ∷ axes) = int_le axis.lo c && int_le c axis.hi && is_in p axes
is_in [] (axis ∷ axes) = false
is_in (c ∷ p) [] = false

-- whether an interval has no number in it
abbrev pub is_empty : Interval → Bool
is_empty axis = int_lt axis.hi axis.lo

-- ---- places

-- how many points of the box come before p in row-major order
abbrev pub place_in_rows : List Interval → List ℤ → ℕ
place_in_rows axes p = count_by (λ q. is_lt (slice_cmp int_cmp q p)) (points_of axes)

-- ---- which boxes are regions

-- both bounds are numbers of 32 bits
abbrev pub HasSmallBounds : Interval → Type 0
HasSmallBounds axis = FitsSigned w32 axis.lo × FitsSigned w32 axis.hi

-- the interval has a number in it
abbrev pub IsOrdered : Interval → Type 0
IsOrdered axis = axis.lo ≤ℤ axis.hi

pub record IsRegion (axes : List Interval) : Type 0 where
  pub some_axes : 0 < length axes
  pub few_axes : length axes ≤ MAX_AXES
  pub small_bounds : All HasSmallBounds axes
  pub ordered : All IsOrdered axes
  pub few_points : length (points_of axes) ≤ MAX_POINTS

-- why a box is no region. No box has two of these faults, and none that is a region has one
abbrev pub HasDomainFault : List Interval → DomainFault → Type 0
HasDomainFault axes TooManyAxes = MAX_AXES < length axes
HasDomainFault axes BoundOut = (length axes ≤ MAX_AXES) × Any (λ axis. ¬ HasSmallBounds axis) axes
HasDomainFault axes Empty =
    (length axes ≤ MAX_AXES) × All HasSmallBounds axes × ((axes ≡ []) ⊎ Any (λ axis. axis.hi <ℤ axis.lo) axes)
HasDomainFault axes TooLarge =
    (length axes ≤ MAX_AXES) × All HasSmallBounds axes × (0 < length axes) × All IsOrdered axes × (MAX_POINTS < length (points_of axes))
