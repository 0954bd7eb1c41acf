use Rattle.std.proofs.Common.{◌+◌, List, map, ap, subst, sym, ◌∙◌}
use Rattle.ras_shape.specs.Gives.{StopsAs, shape_of_form}
use Rattle.spec_expressions.specs.Database.{Member}
use Rattle.spec_expressions.specs.Shape.{Box, shape_of}
use Rattle.spec_expressions.specs.Tree.{tree_of}
use Rattle.spec_statements.specs.Plans.{misfit_in}
use Rattle.ras_rows.proofs.Turns.{shaped_start, shaped_stop, shaped_turn, stops-in-row}
use Rattle.ras_rows.proofs.shaped.shape_in_each.Goals as goal

pub loop-place-init : goal.loop-place-init
loop-place-init c = shaped_start (tree_of c.args.e.now) c.args.rows.now

pub returns-in-Err : goal.returns-in-Err
returns-in-Err c =
    shaped_stop (tree_of c.args.e.now) c.args.rows.now c.loop-place.place (c.loop-place.place + 1, c.in_ok-row.row.items) c.stop_in_row.result c.in_ok-row.ensures
    (stops-in-row (shape_of (map (λ (member : Member). member.array.domain) c.in_ok-row.row.items) (tree_of c.args.e.now)) (c.loop-place.place + 1) c.in-Err.error c.stop_in_row.result
    (subst (λ (ds : List Box). StopsAs (shape_of ds (tree_of c.args.e.now)) c.in-Err.error)
    (c.as_slice-in-loop-place.ensures.value ∙ c.in_ok-domains.ensures ∙ ap (map (λ (member : Member). member.array.domain)) c.as_slice.ensures.value) c.in-Err.ensures)
    c.stop_in_row.ensures)
    c.loop-place.invariant

pub loop-place-preserved : goal.loop-place-preserved
loop-place-preserved c =
    shaped_turn (tree_of c.args.e.now) c.args.rows.now c.loop-place.place (c.loop-place.place + 1, c.in_ok-row.row.items) (shape_of_form c.in-Ok.field-0) c.in_ok-row.ensures
    (ap (misfit_in (c.loop-place.place + 1))
    (ap (λ (ds : List Box). shape_of ds (tree_of c.args.e.now))
    (sym (c.as_slice-in-loop-place.ensures.value ∙ c.in_ok-domains.ensures ∙ ap (map (λ (member : Member). member.array.domain)) c.as_slice.ensures.value)) ∙ c.in-Ok.ensures))
    c.loop-place.invariant
