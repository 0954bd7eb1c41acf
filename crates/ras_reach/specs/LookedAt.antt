-- Where the parts of an expression are looked at.
use Rattle.std.specs.Prelude.{if◌then◌else◌, List, [], Option, Some, None, Result, Ok, Err}
use Rattle.std.specs.List.{list_any}
use Rattle.ras_domain.specs.Boxes.{meet_of}
use Rattle.ras_domain.specs.Region.{is_empty}
use Rattle.ras_syntax.specs.declared.typed.TypedExpr.{TypedExpr}
use Rattle.spec_expressions.specs.Eval.{box_in}
use Rattle.spec_expressions.specs.Reach.{Boxes, Reached, box_named, index_box, moved_back}
use Rattle.spec_expressions.specs.Shape.{Box, Shape, ShapeMisfit, box_of, shape_of}
use Rattle.spec_expressions.specs.Tree.{Tree, Axes, tree_of}
use Rattle.ras_reach.specs.Forms.{IndexSeen, seen_coordinate, seen_axis, seen_at_point, seen_cells}

abbrev pub box_unless_empty : Box → Option Box
box_unless_empty axes = if list_any is_empty axes then None else Some axes

abbrev pub unless_empty_or_none : Option Box → Option Box
unless_empty_or_none None = None
unless_empty_or_none (Some axes) = box_unless_empty axes

-- what is reached in a box, if there is one
abbrev pub reached_at : Option Box → (Box → Reached) → Reached
reached_at None reached = []
reached_at (Some axes) reached = reached axes

-- of an index' operand
abbrev pub operand_box_of : List Box → Boxes → Tree → Axes → Box → IndexSeen → Option Box
operand_box_of domains boxes e axes around (seen_coordinate x k) = None
operand_box_of domains boxes e axes around seen_axis = None
operand_box_of domains boxes e axes around (seen_at_point x) = box_unless_empty (meet_of (box_named boxes x) (box_in (shape_of domains e)))
operand_box_of domains boxes e axes around seen_cells = unless_empty_or_none (index_box domains boxes axes (box_in (shape_of domains e)) around)

-- of an array that is extended, by its own box
abbrev pub extended_box_of : Box → Box → Option Box
extended_box_of around axes = box_unless_empty (meet_of around axes)

-- of a part that is joined to others, by its own box and its place
abbrev pub part_box_of : Box → Box → Box → Option Box
part_box_of own place around = if list_any is_empty (meet_of around place) then None else Some (moved_back place own (meet_of around place))

abbrev pub box_if_shaped : Result Shape ShapeMisfit → Option Box
box_if_shaped (Ok shape) = Some (box_of shape)
box_if_shaped (Err misfit) = None

abbrev pub shape_box_of : List Box → TypedExpr → Option Box
shape_box_of domains e = box_if_shaped (shape_of domains (tree_of e))
