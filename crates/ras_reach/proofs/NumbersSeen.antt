-- The bound of an index and of a part.
use Rattle.std.proofs.Common.{◌≡◌, List, true, false, refl, ap}
use Rattle.std.specs.Prelude.{if◌then◌else◌, codes}
use Rattle.ras_syntax.specs.declared.expr.Part.{Part}
use Rattle.ras_syntax.specs.declared.expr.Part.TheVariants as parts
use Rattle.ras_syntax.specs.declared.typed.Kind.{Kind}
use Rattle.spec_expressions.specs.Eval.{box_in}
use Rattle.spec_expressions.specs.Reach.{Boxes, form_bound, number_alone}
use Rattle.spec_expressions.specs.Shape.{Box, shape_of}
use Rattle.spec_expressions.specs.Tree.{Tree, Axes, node, variable, number, domain_of, interval_of, bound_of, lower, upper, no_axes, position, index_form, part_form, is_same_name}
use Rattle.ras_shape.specs.Ways.{is_axis_of_domain}
use Rattle.ras_reach.specs.declared.forms.PartForm.TheVariants.{Lower, Upper}
use Rattle.ras_reach.specs.Forms.{index_told, part_told}
use Rattle.ras_reach.specs.Numbers.{index_bound_of, part_bound_of}
use Rattle.ras_reach.proofs.StaticsSeen.{bound_first}

pub index_bounded : (domains : List Box) (boxes : Boxes) (kind : Kind) (e : Tree) (axes : Axes)
    → form_bound domains boxes kind (index_form e axes) ≡ index_bound_of boxes kind (index_told e axes)
index_bounded domains boxes kind (node s k (variable x)) (position (node t l (number n atom)) no_axes) = refl
index_bounded domains boxes kind (node s k (domain_of e)) (position (node t l (number n atom)) no_axes) = refl
index_bounded domains boxes kind e (position (node t l (variable x)) no_axes) = refl
index_bounded domains boxes kind e axes = refl

pub part_bounded : (domains : List Box) (boxes : Boxes) (kind : Kind) (e : Tree) (part : Part)
    → form_bound domains boxes kind (part_form e part) ≡ part_bound_of (part_told part (is_axis_of_domain e)) kind (box_in (shape_of domains e))
part_bounded domains boxes kind (node s k (interval_of e n)) (parts.Named name) =
    elim (is_same_name name (codes "lo")) as (λ b. form_bound domains boxes kind (if b then bound_of lower e n else bound_of upper e n)
    ≡ part_bound_of (if b then Lower else Upper) kind (box_in (shape_of domains (node s k (interval_of e n)))))
    [ true ↦ ap number_alone (bound_first domains s k e n lower) | false ↦ ap number_alone (bound_first domains s k e n upper) ]
part_bounded domains boxes kind e (parts.Named name) = refl
part_bounded domains boxes kind e (parts.Numbered n) = refl
