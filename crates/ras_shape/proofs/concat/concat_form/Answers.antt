use Rattle.std.proofs.Common.{◌≡◌, true, arith}
use Rattle.spec_expressions.specs.Shape.{concat_shape, extents_agree}
use Rattle.ras_shape.specs.Moves.{boxes_of_forms}
use Rattle.ras_shape.proofs.Places.{concat_placed}
use Rattle.ras_shape.proofs.concat.concat_form.Goals as goal

pub returns : goal.returns
returns c =
    let equal : extents_agree c.args.along (boxes_of_forms c.args.parts.now) ≡ true = grind arith in
    c.placed_form.ensures (concat_shape c.args.span c.args.width c.args.along (boxes_of_forms c.args.parts.now))
    (concat_placed c.args.span c.args.width c.args.along (boxes_of_forms c.args.parts.now) equal)
