use Rattle.std.proofs.lemmas.Result.{err_from_is_err_and}
use Rattle.spec_statements.specs.Rows.{sources_of}
use Rattle.spec_statements.specs.Statement.{request_of}
use Rattle.ras_rows.specs.Arrays.{holdings_in}
use Rattle.ras_rows.proofs.Turns.{listed_stop, listed_turn}
use Rattle.ras_rows.proofs.plans.each_plan.Goals as goal

pub returns-in_err-plan_row : goal.returns-in_err-plan_row
returns-in_err-plan_row c =
    let p = err_from_is_err_and c.from_residual-in_err-plan_row.result c.from_residual-in_err-plan_row.ensures.1 in
    rw (p.1, p.2)
    (listed_stop (request_of c.args.checked.now.form) (holdings_in c.args.view.now) (sources_of (request_of c.args.checked.now.form))
    c.sources-sources.result.now c.args.rows.now c.sources-sources.ensures c.loop-place.place c.get-number.result.0 c.get-number.result.1.now c.in_ok-row.row.items
    c.get-number.ensures c.in_ok-row.ensures c.loop-place.plans.items c.in_err-plan_row.field-0.0 c.in_err-plan_row.ensures c.loop-place.invariant)

pub loop-place-preserved : goal.loop-place-preserved
loop-place-preserved c =
    listed_turn (request_of c.args.checked.now.form) (holdings_in c.args.view.now) (sources_of (request_of c.args.checked.now.form))
    c.sources-sources.result.now c.args.rows.now c.sources-sources.ensures c.loop-place.place c.get-number.result.0 c.get-number.result.1.now c.in_ok-row.row.items
    c.get-number.ensures c.in_ok-row.ensures c.loop-place.plans.items c.push.new.self.items c.in_ok-plan_row.field-0 c.in_ok-plan_row.ensures c.in_ok-push.ensures.items c.loop-place.invariant
