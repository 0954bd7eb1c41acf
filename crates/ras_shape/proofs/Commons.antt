-- The common shape of a list, taken from its end.
use Rattle.std.proofs.Common.{◌≡◌, List, [], ◌∷◌, ◌++◌, map, Result, Ok, Err, refl, sym, ap, subst, ◌∙◌}
use Rattle.ras_cells.specs.Outcomes.{◌>>=◌}
use Rattle.ras_syntax.specs.declared.span.Span.{Span}
use Rattle.spec_expressions.specs.Shape.{Shape, scalar, ShapeMisfit, both_shapes, common_shape}
use Rattle.ras_shape.specs.declared.form.Form.{Form}
use Rattle.ras_shape.specs.declared.form.Form.TheVariants.{Scalar}
use Rattle.ras_shape.specs.declared.form.ShapeError.{ShapeError}
use Rattle.ras_shape.specs.declared.form.ShapeError.TheVariants.{Fault, Memory}
use Rattle.ras_shape.specs.Gives.{shape_of_form, StopsAs}

-- the common shape of forms and of those after them, whose common shape is known
abbrev pub common_with : Span → List Form → Result Shape ShapeMisfit → Result Shape ShapeMisfit
common_with span [] others = others
common_with span (form ∷ forms) others = common_with span forms others >>= both_shapes span (shape_of_form form)

pub common_with-all : (span : Span) (forms : List Form) → common_with span forms (Ok scalar) ≡ common_shape span (map shape_of_form forms)
common_with-all span [] = refl
common_with-all span (form ∷ forms) = rw (common_with-all span forms) refl

pub common_with-last : (span : Span) (forms : List Form) (form : Form) (others : Result Shape ShapeMisfit)
    → common_with span (forms ++ form ∷ []) others ≡ common_with span forms (others >>= both_shapes span (shape_of_form form))
common_with-last span [] form others = refl
common_with-last span (first ∷ forms) form others = rw (common_with-last span forms form others) refl

-- a fault of those after them is the fault of all
pub common_with-fault : (span : Span) (forms : List Form) (misfit : ShapeMisfit) → common_with span forms (Err misfit) ≡ Err misfit
common_with-fault span [] misfit = refl
common_with-fault span (form ∷ forms) misfit = rw (common_with-fault span forms misfit) refl

-- the start of the loop, its turn, and its stop
pub common_begin : (span : Span) (forms : List Form) → common_with span forms (Ok (shape_of_form Scalar)) ≡ common_shape span (map shape_of_form forms)
common_begin span forms = common_with-all span forms

pub common_turn : (span : Span) (forms rest : List Form) (form common next : Form) (w : Result Shape ShapeMisfit) → forms ≡ rest ++ form ∷ []
    → both_shapes span (shape_of_form form) (shape_of_form common) ≡ Ok (shape_of_form next)
    → common_with span forms (Ok (shape_of_form common)) ≡ w → common_with span rest (Ok (shape_of_form next)) ≡ w
common_turn span forms rest form common next w is both so_far =
    ap (common_with span rest) (sym both) ∙ sym (common_with-last span rest form (Ok (shape_of_form common))) ∙ ap (λ fs. common_with span fs (Ok (shape_of_form common))) (sym is) ∙ so_far

stops_with : (span : Span) (rest : List Form) (r : Result Shape ShapeMisfit) (error : ShapeError) → StopsAs r error → StopsAs (common_with span rest r) error
stops_with span rest r (Fault place fault) stop = rw stop (common_with-fault span rest (place, fault))
stops_with span rest r Memory stop = tt

pub common_stop : (span : Span) (forms rest : List Form) (form common : Form) (w : Result Shape ShapeMisfit) (error : ShapeError) → forms ≡ rest ++ form ∷ []
    → StopsAs (both_shapes span (shape_of_form form) (shape_of_form common)) error → common_with span forms (Ok (shape_of_form common)) ≡ w → StopsAs w error
common_stop span forms rest form common w error is stop so_far =
    subst (λ r. StopsAs r error) (sym (common_with-last span rest form (Ok (shape_of_form common))) ∙ ap (λ fs. common_with span fs (Ok (shape_of_form common))) (sym is) ∙ so_far)
    (stops_with span rest (both_shapes span (shape_of_form form) (shape_of_form common)) error stop)

pub ruleset commons = (common_begin, common_turn, common_stop)
