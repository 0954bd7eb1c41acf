use Rattle.std.proofs.Common.{ap, sym, ◌∙◌, Ok}
use Rattle.std.proofs.lemmas.Result.{err_from_is_err_and}
use Rattle.spec_expressions.specs.Tree.{tree_of}
use Rattle.spec_statements.specs.Reply.{all_cells, one_domain}
use Rattle.ras_rows.specs.Plans.{plan_seen}
use Rattle.ras_shape.specs.Gives.{shape_of_form}
use Rattle.ras_eval.proofs.Answered.{value_array, value_domain, value_scalar, value_stop}
use Rattle.ras_eval.proofs.select.value_of.Goals as goal

pub cells_of_row-requires : goal.cells_of_row-requires
cells_of_row-requires c = c.requires

pub cells_of_row-requires-in-Array : goal.cells_of_row-requires-in-Array
cells_of_row-requires-in-Array c = c.requires

pub returns-in_err-cells-in-Scalar : goal.returns-in_err-cells-in-Scalar
returns-in_err-cells-in-Scalar c =
    let p = err_from_is_err_and c.from_residual.result c.from_residual.ensures.1 in
    rw (p.1, p.2) (value_stop (tree_of c.args.body.now) (plan_seen c.args.plan.now) c.in_err-cells-in-Scalar.field-0.0 c.in_err-cells-in-Scalar.ensures)

pub returns-in_err-cells-in-Array : goal.returns-in_err-cells-in-Array
returns-in_err-cells-in-Array c =
    let p = err_from_is_err_and c.from_residual-in_err-cells-in-Array.result c.from_residual-in_err-cells-in-Array.ensures.1 in
    rw (p.1, p.2) (value_stop (tree_of c.args.body.now) (plan_seen c.args.plan.now) c.in_err-cells-in-Array.field-0.0 c.in_err-cells-in-Array.ensures)

pub returns-in_ok-cells-in-Scalar : goal.returns-in_ok-cells-in-Scalar
returns-in_ok-cells-in-Scalar c =
    value_scalar (tree_of c.args.body.now) (plan_seen c.args.plan.now) c.in_ok-cells-in-Scalar.cells.cells c.first.result (ap shape_of_form c.in-Scalar.is)
    c.in_ok-cells-in-Scalar.ensures c.first.ensures

pub returns-in_ok-cells-in-Array : goal.returns-in_ok-cells-in-Array
returns-in_ok-cells-in-Array c =
    value_array (tree_of c.args.body.now) (plan_seen c.args.plan.now) c.in-Array.region c.in_ok-cells-in-Array.cells.cells (ap shape_of_form c.in-Array.is) c.in_ok-cells-in-Array.ensures
    ∙ ap (λ axes. Ok (all_cells axes c.in_ok-cells-in-Array.cells.cells)) (sym c.copy_of_region.ensures)

pub returns-then-is_domain : goal.returns-then-is_domain
returns-then-is_domain c =
    value_domain (tree_of c.args.body.now) (plan_seen c.args.plan.now) c.in-Domain.region (ap shape_of_form c.in-Domain.is) (c.is_domain.ensures c.if-is_domain.true)
    ∙ ap (λ axes. Ok (one_domain axes)) (sym c.copy_of_region-then-is_domain.ensures)
