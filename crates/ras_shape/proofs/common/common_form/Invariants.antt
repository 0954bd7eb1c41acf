use Rattle.std.proofs.Common.{◌≡◌, map, vec_len, Ok}
use Rattle.spec_expressions.specs.Shape.{common_shape}
use Rattle.ras_shape.specs.Gives.{shape_of_form}
use Rattle.ras_shape.proofs.Commons.{common_with}
use Rattle.ras_shape.proofs.common.common_form.Given as goal

abbrev pub decreases-loop-form : goal.decreases-loop-form
decreases-loop-form l = vec_len l.forms

abbrev pub invariant-loop-form : goal.invariant-loop-form
invariant-loop-form l = common_with l.span l.forms.items (Ok (shape_of_form l.common)) ≡ common_shape l.span (map shape_of_form l.initial.forms.items)
