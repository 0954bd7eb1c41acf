-- The parts of a concat, moved to their places.
use Rattle.std.specs.Prelude.{ℕ, ℤ, ◌+ℤ◌, ◌-ℤ◌, Bool, ◌==◌, List, map, Result, Ok, Err, if◌then◌else◌}
use Rattle.std.specs.List.{list_any, zip}
use Rattle.ras_cells.specs.Outcomes.{◌>>=◌}
use Rattle.ras_domain.specs.declared.region.Interval.{Interval}
use Rattle.ras_domain.specs.Region.{extent_of}
use Rattle.ras_syntax.specs.declared.span.Span.{Span}
use Rattle.ras_syntax.specs.declared.faults.ShapeFault.TheVariants.{BoundOut}
use Rattle.spec_expressions.specs.Shape.{Box, Shape, array, sized_shape, ShapeMisfit, box_of, has_extents_of, has_large_bound, interval_from, placed_parts, joined_parts}
use Rattle.ras_shape.specs.declared.form.Form.{Form}
use Rattle.ras_shape.specs.Gives.{shape_of_form}

abbrev pub boxes_of_forms : List Form → List Box
boxes_of_forms forms = map box_of (map shape_of_form forms)

-- the interval moved so that it begins here
abbrev pub interval_begun_at : ℤ → Interval → Interval
interval_begun_at lo axis = record { lo = lo; hi = lo +ℤ (axis.hi -ℤ axis.lo) }

-- the intervals of a box, each moved so that it begins with the other box' interval
abbrev pub box_begun_with : Box → Box → Box
box_begun_with first b = map (λ x. interval_from x.0 x.1) (zip first b)

abbrev pub checked_box : Span → Box → Result Box ShapeMisfit
checked_box span axes = if list_any has_large_bound axes then Err (span, BoundOut) else Ok axes

-- the box of all parts, where no bound of one leaves 32 bits
abbrev pub placed_box : Span → ℕ → List Box → Result Box ShapeMisfit
placed_box span n parts =
    if list_any (list_any has_large_bound) (placed_parts n parts) then Err (span, BoundOut) else Ok (joined_parts (placed_parts n parts))

abbrev pub placed_shape : Span → ℕ → ℕ → List Box → Result Shape ShapeMisfit
placed_shape span width n parts = do
  axes ← placed_box span n parts
  sized_shape span width (array axes)

-- the extents of two intervals are equal
abbrev pub is_as_long : Interval × Interval → Bool
is_as_long x = extent_of x.0 == extent_of x.1

-- the extents of a part are those of the first on every axis but one
abbrev pub agrees_with : ℕ → Form → Form → Bool
agrees_with n first part = has_extents_of n (box_of (shape_of_form first)) (box_of (shape_of_form part))
