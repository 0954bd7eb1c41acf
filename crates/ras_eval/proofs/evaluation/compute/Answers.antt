use Rattle.std.proofs.Common.{Ok, ap, map, subst, sym, ◌∙◌}
use Rattle.std.proofs.lemmas.Result.{err_from_is_err_and}
use Rattle.spec_statements.specs.Rows.{sources_of}
use Rattle.spec_statements.specs.Statement.{request_of, statement_tree_of}
use Rattle.ras_rows.specs.Arrays.{holdings_in}
use Rattle.ras_rows.specs.Plans.{plan_seen, planned, rows_listed}
use Rattle.ras_rows.specs.Stops.{GivesOrStops}
use Rattle.ras_eval.specs.Computed.{AreReadBy, computed_of_plans, computed_seen}
use Rattle.ras_eval.proofs.PassingRows.{gives_bind, stops_bind}
use Rattle.ras_eval.proofs.Whole.{read_by}
use Rattle.ras_eval.proofs.evaluation.compute.Goals as goal

pub returns-in_err-plans : goal.returns-in_err-plans
returns-in_err-plans c =
    let p = err_from_is_err_and c.from_residual.result c.from_residual.ensures.1 in
    rw (p.1, p.2)
    (stops_bind (planned (statement_tree_of c.args.checked.now) (rows_listed (holdings_in c.args.view.now) (sources_of (request_of c.args.checked.now.form)) c.args.rows.now))
    (computed_of_plans (request_of c.args.checked.now.form)) c.in_err-plans.field-0.0 c.in_err-plans.ensures)

pub computed-requires : goal.computed-requires
computed-requires c =
    subst (λ plans. AreReadBy (request_of c.args.checked.now.form) (map plan_seen plans)) (sym c.as_slice.ensures.value)
    (read_by (statement_tree_of c.args.checked.now) (rows_listed (holdings_in c.args.view.now) (sources_of (request_of c.args.checked.now.form)) c.args.rows.now)
    (map plan_seen c.in_ok-plans.plans.items) c.in_ok-plans.ensures)

pub returns : goal.returns
returns c =
    gives_bind (computed_seen (request_of c.args.checked.now.form))
    (planned (statement_tree_of c.args.checked.now) (rows_listed (holdings_in c.args.view.now) (sources_of (request_of c.args.checked.now.form)) c.args.rows.now))
    (map plan_seen c.as_slice.result.now) (computed_of_plans (request_of c.args.checked.now.form)) c.computed.result
    (c.in_ok-plans.ensures ∙ ap (λ plans. Ok (map plan_seen plans)) (sym c.as_slice.ensures.value)) c.computed.ensures
