use Rattle.std.proofs.Common.{List, length, ◌-◌, take, drop, sym, ap, ◌∙◌, arith}
use Rattle.spec_expressions.specs.Shape.{extents_agree}
use Rattle.ras_shape.specs.declared.form.Form.{Form}
use Rattle.ras_shape.specs.Moves.{boxes_of_forms}
use Rattle.ras_shape.proofs.Places.{extents_each, parts_split}
use Rattle.ras_shape.proofs.concat.have_equal_extents.Goals as goal

pub returns : goal.returns
returns c =
    c.agree_with.ensures
    ∙ sym (extents_each c.args.along c.first-item.result (take (length c.args.parts.now - 1) (drop 1 c.args.parts.now)))
    ∙ ap (λ (parts : List Form). extents_agree c.args.along (boxes_of_forms parts))
    (sym (parts_split c.args.parts.now c.first-item.result (omega (arith, c.in-len1-up.len_at_least)) c.first-item.is))
