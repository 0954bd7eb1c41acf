-- Bounds of numbers, by what an index or a part is.
use Rattle.std.specs.Prelude.{unsigned_abs, slice_get, Option, Some}
use Rattle.ras_domain.specs.declared.region.Interval.{Interval}
use Rattle.ras_syntax.specs.declared.typed.Kind.{Kind}
use Rattle.spec_expressions.specs.Reach.{Boxes, box_named, number_alone, range_of_kind}
use Rattle.spec_expressions.specs.Shape.{Box}
use Rattle.ras_reach.specs.declared.forms.PartForm.{PartForm}
use Rattle.ras_reach.specs.declared.forms.PartForm.TheVariants.{Component, Lower, Upper}
use Rattle.ras_reach.specs.Forms.{IndexSeen, seen_coordinate, seen_axis, seen_at_point, seen_cells}
use Rattle.ras_reach.specs.Statics.{part_value_of}

abbrev pub index_bound_of : Boxes → Kind → IndexSeen → Option Interval
index_bound_of boxes kind (seen_coordinate x k) = slice_get (box_named boxes x) (unsigned_abs k)
index_bound_of boxes kind seen_axis = Some (range_of_kind kind)
index_bound_of boxes kind (seen_at_point x) = Some (range_of_kind kind)
index_bound_of boxes kind seen_cells = Some (range_of_kind kind)

abbrev pub part_bound_of : PartForm → Kind → Box → Option Interval
part_bound_of Component kind axes = Some (range_of_kind kind)
part_bound_of Lower kind axes = number_alone (part_value_of Lower axes)
part_bound_of Upper kind axes = number_alone (part_value_of Upper axes)
