use Rattle.std.proofs.Common.{◌≡◌, arith, length, map, subst, sym, ◌∙◌}
use Rattle.std.proofs.lemmas.List.{length-map}
use Rattle.std.proofs.lemmas.Result.{err_from_is_err_and}
use Rattle.spec_expressions.specs.Tree.{tree_of}
use Rattle.spec_statements.specs.Effects.{values_of_plans}
use Rattle.spec_statements.specs.Reply.{row_reply_of}
use Rattle.ras_rows.specs.Plans.{plan_seen}
use Rattle.ras_rows.specs.Stops.{IsStop}
use Rattle.ras_eval.specs.Cells.{each_in_order}
use Rattle.ras_eval.specs.Computed.{HasBodyShape, row_value}
use Rattle.ras_eval.proofs.Answered.{values_each}
use Rattle.ras_eval.proofs.Each.{after, each_end, each_start, each_turn, row_stops, seen-at, seen-more}
use Rattle.ras_eval.proofs.Whole.{all_at}
use Rattle.ras_eval.proofs.select.answered.Goals as goal

pub loop-plan-init : goal.loop-plan-init
loop-plan-init c =
    subst (λ rows. after (map row_reply_of rows) (each_in_order (row_value (tree_of c.args.body.now)) (map plan_seen c.args.plans.now))
    ≡ each_in_order (row_value (tree_of c.args.body.now)) (map plan_seen c.args.plans.now))
    (sym c.new-rows.ensures) (each_start (row_value (tree_of c.args.body.now)) (map plan_seen c.args.plans.now))

pub value_of-requires : goal.value_of-requires
value_of-requires c =
    all_at (HasBodyShape (tree_of c.args.body.now)) (map plan_seen c.args.plans.now) c.loop-plan.plan-index (plan_seen c.plan-item.result)
    (seen-at plan_seen c.args.plans.now c.loop-plan.plan-index c.plan-item.result c.loop-plan-test.true c.plan-item.is) c.requires

pub returns-in_err-value : goal.returns-in_err-value
returns-in_err-value c =
    let p = err_from_is_err_and c.from_residual.result c.from_residual.ensures.1 in
    rw (p.1, p.2)
    (subst (λ wanted. IsStop wanted c.in_err-value.field-0.0) (sym (values_each (tree_of c.args.body.now) (map plan_seen c.args.plans.now)))
    (row_stops (row_value (tree_of c.args.body.now)) (map plan_seen c.args.plans.now) (map row_reply_of c.loop-plan.rows) c.loop-plan.plan-index (plan_seen c.plan-item.result) c.in_err-value.field-0.0
    (seen-at plan_seen c.args.plans.now c.loop-plan.plan-index c.plan-item.result c.loop-plan-test.true c.plan-item.is) c.in_err-value.ensures c.loop-plan.invariant))

pub loop-plan-preserved : goal.loop-plan-preserved
loop-plan-preserved c =
    each_turn (row_value (tree_of c.args.body.now)) (map plan_seen c.args.plans.now) (map row_reply_of c.loop-plan.rows) (map row_reply_of c.put.new.rows) c.loop-plan.plan-index
    (plan_seen c.plan-item.result) (row_reply_of c.in_ok-value.value)
    (seen-at plan_seen c.args.plans.now c.loop-plan.plan-index c.plan-item.result c.loop-plan-test.true c.plan-item.is) c.in_ok-value.ensures
    (seen-more row_reply_of c.loop-plan.rows c.put.new.rows c.in_ok-value.value c.in_ok-put.ensures) c.loop-plan.invariant

pub returns : goal.returns
returns c =
    values_each (tree_of c.args.body.now) (map plan_seen c.args.plans.now)
    ∙ each_end (row_value (tree_of c.args.body.now)) (map plan_seen c.args.plans.now) (map row_reply_of c.loop-plan.rows) c.loop-plan.plan-index
    (omega (arith, length-map c.args.plans.now plan_seen, c.loop-plan-test.false)) c.loop-plan.invariant
