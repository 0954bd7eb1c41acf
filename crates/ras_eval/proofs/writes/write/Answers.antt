use Rattle.std.proofs.Common.{◌≡◌, true, ap, sym, ◌∙◌, map, rules}
use Rattle.std.specs.Option.{option_map}
use Rattle.std.proofs.lemmas.Result.{err_from_is_err_and}
use Rattle.ras_domain.specs.Region.{points_of}
use Rattle.spec_expressions.specs.Tree.{tree_of}
use Rattle.spec_statements.specs.Plans.{target_point}
use Rattle.ras_rows.specs.Plans.{plan_seen, writing_seen}
use Rattle.ras_shape.specs.Cuts.{cut_found}
use Rattle.ras_eval.specs.Cells.{stored_for}
use Rattle.ras_eval.proofs.Written.{stores_made, stores_stop}
use Rattle.ras_eval.proofs.writes.write.Goals as goal

pub returns-in_err-cells-clause-stores : goal.returns-in_err-cells-clause-stores
returns-in_err-cells-clause-stores c =
    let p = err_from_is_err_and c.from_residual.result c.from_residual.ensures.1 in
    rw (p.1, p.2) (stores_stop (stored_for c.args.purpose.now) (tree_of c.args.body.now) (plan_seen c.args.plan.now) c.in_err-cells.field-0.0 c.in_err-cells.ensures)

pub returns-clause-stores : goal.returns-clause-stores
returns-clause-stores c =
    let fits : c.is_target.result ≡ true = search rules in
    stores_made (stored_for c.args.purpose.now) (tree_of c.args.body.now) (plan_seen c.args.plan.now) (writing_seen c.in-Some.writing)
    (record { oid = c.args.oid; grown = c.copy_of_region.result; region = c.copy_of_region-2.result; cells = c.in_ok-cells.cells })
    (ap (option_map writing_seen) c.in-Some.is)
    (ap points_of (sym c.axes.ensures.axes) ∙ c.is_target.ensures fits ∙ ap (λ cuts. map (target_point (map cut_found cuts)) (points_of c.axes-2.result.now)) c.as_slice.ensures.value
    ∙ ap (λ axes. map (target_point (map cut_found c.args.plan.now.cuts.items)) (points_of axes)) c.axes-2.ensures.axes)
    c.in_ok-cells.ensures c.copy_of_region.ensures c.copy_of_region-2.ensures
