use Rattle.std.proofs.Common.{length, map, arith}
use Rattle.std.specs.Prelude.{flat_map}
use Rattle.ras_rows.specs.declared.plan.Plan.{Plan}
use Rattle.ras_rows.specs.Plans.{plan_seen}
use Rattle.spec_statements.specs.Locks.{lock_list}
use Rattle.spec_statements.specs.Phases.{plan_locks}
use Rattle.spec_statements.specs.Statement.{request_of}
use Rattle.ras_reach.proofs.RowLoops.{row_turn, seen_start}
use Rattle.ras_reach.proofs.phases.plans_wanted.Goals as goal

pub loop-left-init : goal.loop-left-init
loop-left-init c = record {
  within = omega arith;
  so_far = seen_start plan_seen (plan_locks (request_of c.args.form.now)) c.args.plans.now (length c.args.plans.now) c.new-set.result (omega arith) c.new-set.ensures;
}

pub loop-left-preserved : goal.loop-left-preserved
loop-left-preserved c = record {
  within = omega (arith, c.loop-left.invariant.within);
  so_far =
      row_turn (λ (plan : Plan). plan_locks (request_of c.args.form.now) (plan_seen plan)) c.args.plans.now c.loop-left.left c.plan_at.result.now c.loop-left.set c.put_plan.new.set
      (lock_list (flat_map (plan_locks (request_of c.args.form.now)) (map plan_seen c.args.plans.now))) c.loop-left-test.true c.plan_at.ensures
      c.in_ok-put_plan.ensures c.loop-left.invariant.so_far;
}
