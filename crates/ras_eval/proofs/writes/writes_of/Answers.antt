use Rattle.std.proofs.Common.{◌≡◌, arith, length, map, subst, sym}
use Rattle.std.proofs.lemmas.List.{length-map}
use Rattle.std.proofs.lemmas.Result.{err_from_is_err_and}
use Rattle.spec_statements.specs.Statement.{request_of}
use Rattle.ras_rows.specs.Plans.{plan_seen}
use Rattle.ras_eval.specs.Cells.{each_in_order}
use Rattle.ras_eval.specs.Computed.{row_written, writing_seen_of}
use Rattle.ras_eval.proofs.Each.{after, each_end, each_start, each_turn, row_stops, seen-at, seen-more}
use Rattle.ras_eval.proofs.writes.writes_of.Goals as goal

pub loop-plan-init : goal.loop-plan-init
loop-plan-init c =
    subst (λ writes. after (map (writing_seen_of (request_of c.args.form.now)) writes) (each_in_order (row_written (request_of c.args.form.now)) (map plan_seen c.args.plans.now))
    ≡ each_in_order (row_written (request_of c.args.form.now)) (map plan_seen c.args.plans.now))
    (sym c.new-writes.ensures) (each_start (row_written (request_of c.args.form.now)) (map plan_seen c.args.plans.now))

pub returns-in_err-write : goal.returns-in_err-write
returns-in_err-write c =
    let p = err_from_is_err_and c.from_residual.result c.from_residual.ensures.1 in
    rw (p.1, p.2)
    (row_stops (row_written (request_of c.args.form.now)) (map plan_seen c.args.plans.now) (map (writing_seen_of (request_of c.args.form.now)) c.loop-plan.writes) c.loop-plan.plan-index
    (plan_seen c.plan-item.result) c.in_err-write.field-0.0
    (seen-at plan_seen c.args.plans.now c.loop-plan.plan-index c.plan-item.result c.loop-plan-test.true c.plan-item.is) c.in_err-write.ensures c.loop-plan.invariant)

pub loop-plan-preserved : goal.loop-plan-preserved
loop-plan-preserved c =
    each_turn (row_written (request_of c.args.form.now)) (map plan_seen c.args.plans.now) (map (writing_seen_of (request_of c.args.form.now)) c.loop-plan.writes)
    (map (writing_seen_of (request_of c.args.form.now)) c.put.new.writes) c.loop-plan.plan-index
    (plan_seen c.plan-item.result) (writing_seen_of (request_of c.args.form.now) c.in_ok-write.write)
    (seen-at plan_seen c.args.plans.now c.loop-plan.plan-index c.plan-item.result c.loop-plan-test.true c.plan-item.is) c.in_ok-write.ensures
    (seen-more (writing_seen_of (request_of c.args.form.now)) c.loop-plan.writes c.put.new.writes c.in_ok-write.write c.in_ok-put.ensures) c.loop-plan.invariant

pub returns : goal.returns
returns c =
    each_end (row_written (request_of c.args.form.now)) (map plan_seen c.args.plans.now) (map (writing_seen_of (request_of c.args.form.now)) c.loop-plan.writes) c.loop-plan.plan-index
    (omega (arith, length-map c.args.plans.now plan_seen, c.loop-plan-test.false)) c.loop-plan.invariant
