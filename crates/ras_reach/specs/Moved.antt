-- Boxes that are moved.
use Rattle.std.specs.Prelude.{ℤ, ◌+ℤ◌, ◌-ℤ◌, List, map, Vec}
use Rattle.std.specs.Global.{Global}
use Rattle.std.specs.List.{zip}
use Rattle.ras_domain.specs.declared.region.Interval.{Interval}
use Rattle.spec_expressions.specs.Shape.{Box, interval_from}

-- how far each interval of the second box begins after that of the first
abbrev pub differences_between : Box → Box → List ℤ
differences_between from to = map (λ x. x.1.lo -ℤ x.0.lo) (zip from to)

-- the interval moved so that it begins here
abbrev pub interval_begun : ℤ → Interval → Interval
interval_begun lo axis = record { lo = lo; hi = lo +ℤ (axis.hi -ℤ axis.lo) }

-- the intervals of a box, each moved so that it begins with the other box' interval
abbrev pub moved_to_begin : Box → Box → Box
moved_to_begin first b = map (λ x. interval_from x.0 x.1) (zip first b)

-- the boxes that vectors hold
abbrev pub boxes_held : List (Vec Interval Global) → List Box
boxes_held vectors = map (λ axes. axes.items) vectors
