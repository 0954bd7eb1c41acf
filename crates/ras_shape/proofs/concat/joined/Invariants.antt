use Rattle.std.proofs.Common.{◌≡◌, drop}
use Rattle.spec_expressions.specs.Shape.{box_of}
use Rattle.ras_shape.specs.Gives.{shape_of_form}
use Rattle.ras_shape.specs.Moves.{boxes_of_forms, placed_box}
use Rattle.ras_shape.proofs.Places.{placed_from}
use Rattle.ras_shape.proofs.concat.joined.Given as goal

abbrev pub invariant-loop-part : goal.invariant-loop-part
invariant-loop-part l =
    placed_from l.span l.along (box_of (shape_of_form l.first)) l.before.items l.whole.items (boxes_of_forms (drop l.part-index l.others))
    ≡ placed_box l.span l.along (boxes_of_forms l.fn.parts)
