-- What becomes of boxes as sets of points: one that covers another, the meeting and the hull of two,
-- a box moved along, and a box with an axis left out.
use Rattle.std.specs.Prelude.{◌≡◌, ℕ, ℤ, ◌+ℤ◌, ◌↔◌, ◌≤ℤ◌, List, [], ◌∷◌, map, ◌==◌, int_le, Bool, ◌&&◌, length}
use Rattle.std.specs.Int.{int_min, int_max}
use Rattle.std.specs.List.{zip, remove, list_all}
use Rattle.ras_domain.specs.declared.region.Interval.{Interval}
use Rattle.ras_domain.specs.Region.{IsIn}
use Rattle.std.specs.Ordering.{int_eq}
use Rattle.std.specs.Cmp.Lexicographic.{pointwise}

-- ---- points

-- each point of the small box is in the big one
abbrev pub Covers : List Interval → List Interval → Type 0
Covers big small = (p : List ℤ) → IsIn p small → IsIn p big

-- equally many intervals, each within its own
abbrev pub LiesIn : List Interval → List Interval → Type 0
LiesIn [] [] = Unit {0}
LiesIn (x ∷ small) (y ∷ big) = (y.lo ≤ℤ x.lo) × (x.hi ≤ℤ y.hi) × LiesIn small big
LiesIn [] (y ∷ big) = ⊥
LiesIn (x ∷ small) [] = ⊥

-- no point is in both
abbrev pub AreDisjoint : List Interval → List Interval → Type 0
AreDisjoint a b = (p : List ℤ) → IsIn p a → IsIn p b → ⊥

-- the points are those in both
abbrev pub IsMeeting : List Interval → List Interval → List Interval → Type 0
IsMeeting both a b = (p : List ℤ) → IsIn p both ↔ (IsIn p a × IsIn p b)

-- the least box with the points of both
pub record IsHull (hull a b : List Interval) : Type 0 where
  pub first : Covers hull a
  pub second : Covers hull b
  pub least : (box : List Interval) → Covers box a → Covers box b → Covers box hull

-- the point moved by an offset on each axis
abbrev pub moved_by : List ℤ → List ℤ → List ℤ
moved_by [] p = p
moved_by (d ∷ ds) [] = []
moved_by (d ∷ ds) (c ∷ p) = (c +ℤ d) ∷ moved_by ds p

-- the points are those of the other box, each moved by the offsets
abbrev pub IsShifted : List ℤ → List Interval → List Interval → Type 0
IsShifted d axes shifted = (p : List ℤ) → IsIn p axes ↔ IsIn (moved_by d p) shifted

-- the points are those of the other box with the coordinate on this axis left out
abbrev pub IsCut : ℕ → List Interval → List Interval → Type 0
IsCut axis axes cut = (q : List ℤ) → IsIn q cut ↔ ((p : List ℤ) × IsIn p axes × (q ≡ remove p axis))

-- ---- intervals

-- the numbers in both intervals
abbrev pub meet_of_axis : Interval → Interval → Interval
meet_of_axis a b = record { lo = int_max a.lo b.lo; hi = int_min a.hi b.hi }

-- the box of the points in both, for boxes with equally many axes
abbrev pub meet_of : List Interval → List Interval → List Interval
meet_of a b = map (λ x. meet_of_axis x.0 x.1) (zip a b)

-- from the lesser lower bound to the greater upper one
abbrev pub hull_of_axis : Interval → Interval → Interval
hull_of_axis a b = record { lo = int_min a.lo b.lo; hi = int_max a.hi b.hi }

-- the least box with the points of both, for boxes with equally many axes
abbrev pub hull_of : List Interval → List Interval → List Interval
hull_of a b = map (λ x. hull_of_axis x.0 x.1) (zip a b)

-- the interval moved by an offset
abbrev pub shifted_axis : ℤ → Interval → Interval
shifted_axis d axis = record { lo = axis.lo +ℤ d; hi = axis.hi +ℤ d }

-- the box moved by an offset on each axis
abbrev pub shifted_by : List ℤ → List Interval → List Interval
shifted_by [] axes = axes
shifted_by (d ∷ ds) [] = []
shifted_by (d ∷ ds) (axis ∷ axes) = shifted_axis d axis ∷ shifted_by ds axes

-- ---- tests

abbrev pub is_same_interval : Interval → Interval → Bool
is_same_interval a b = int_eq a.lo b.lo && int_eq a.hi b.hi

-- whether two boxes have the same intervals
abbrev pub is_same_box : List Interval → List Interval → Bool
is_same_box = pointwise is_same_interval

-- the first interval lies within the second
abbrev pub is_within : Interval × Interval → Bool
is_within both = int_le both.1.lo both.0.lo && int_le both.0.hi both.1.hi

-- whether a box has as many intervals as another one, each within its own
abbrev pub lies_in : List Interval → List Interval → Bool
lies_in small big = (length small == length big) && list_all is_within (zip small big)
