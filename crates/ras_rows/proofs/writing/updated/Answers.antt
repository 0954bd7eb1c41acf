use Rattle.std.proofs.Common.{◌≡◌, ◌<◌, true, length, subst, sym, ap, ◌∙◌, rules}
use Rattle.std.proofs.lemmas.Result.{err_from_is_err_and}
use Rattle.ras_domain.specs.declared.TheConstants.{MAX_POINTS}
use Rattle.ras_domain.specs.Boxes.{hull_of, lies_in}
use Rattle.ras_domain.specs.Region.{points_of}
use Rattle.ras_shape.specs.declared.form.ShapeError.{ShapeError}
use Rattle.ras_shape.specs.Gives.{StopsAs, shape_of_form}
use Rattle.spec_expressions.specs.Shape.{Box, box_of}
use Rattle.spec_statements.specs.Plans.{allowed_writing, writing_over}
use Rattle.ras_rows.proofs.Allowed.{many-points}
use Rattle.ras_rows.proofs.writing.updated.Goals as goal

pub returns-in-Err : goal.returns-in-Err
returns-in-Err c =
    let inside : lies_in c.args.region c.args.of.now.bounds.items ≡ true =
    ap (λ (r : Box). lies_in r c.args.of.now.bounds.items) (sym c.axes.ensures.axes) ∙ ap (λ (b : Box). lies_in c.axes.result.now b) (sym c.as_slice.ensures.value)
    ∙ sym c.lies_within.ensures ∙ c.if-not-lies_within.false in
    let many : MAX_POINTS < length (points_of (hull_of c.args.domain.now c.args.region)) = search (rules, c.in-Err.ensures) in
    subst (λ (e : ShapeError). StopsAs (allowed_writing c.args.of.now c.args.span (writing_over c.args.domain.now c.args.region (box_of (shape_of_form c.args.form.now)))) e)
    (sym c.fault_at-in-Err.ensures)
    (many-points c.args.of.now c.args.span (writing_over c.args.domain.now c.args.region (box_of (shape_of_form c.args.form.now))) inside many)

pub returns-in_err-check_growth : goal.returns-in_err-check_growth
returns-in_err-check_growth c =
    let inside : lies_in c.args.region c.args.of.now.bounds.items ≡ true =
    ap (λ (r : Box). lies_in r c.args.of.now.bounds.items) (sym c.axes.ensures.axes) ∙ ap (λ (b : Box). lies_in c.axes.result.now b) (sym c.as_slice.ensures.value)
    ∙ sym c.lies_within.ensures ∙ c.if-not-lies_within.false in
    let p = err_from_is_err_and c.from_residual.result c.from_residual.ensures.1 in
    rw (p.1, p.2)
    (subst
    (λ (g : Box). StopsAs (allowed_writing c.args.of.now c.args.span (record { region = c.args.region; grown = g; body = box_of (shape_of_form c.args.form.now) })) c.in_err-check_growth.field-0.0)
    c.in-Ok.ensures.axes (c.in_err-check_growth.ensures c.args.region (box_of (shape_of_form c.args.form.now)) inside))
