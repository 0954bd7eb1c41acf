use Rattle.std.proofs.Common.{◌≡◌, ◌≤◌, length, map, take}
use Rattle.std.specs.Prelude.{flat_map}
use Rattle.ras_rows.specs.Plans.{plan_seen}
use Rattle.spec_statements.specs.Locks.{lock_list}
use Rattle.spec_statements.specs.Phases.{plan_locks}
use Rattle.spec_statements.specs.Statement.{request_of}
use Rattle.ras_reach.specs.Keys.{put_before}
use Rattle.ras_reach.proofs.phases.plans_wanted.Given as goal

abbrev pub invariant-loop-left : goal.invariant-loop-left
invariant-loop-left l = record {
  within : l.left ≤ length l.plans;
  so_far : put_before (flat_map (λ plan. plan_locks (request_of l.form) (plan_seen plan)) (take l.left l.plans)) l.set
      ≡ lock_list (flat_map (plan_locks (request_of l.form)) (map plan_seen l.plans));
}

abbrev pub decreases-loop-left : goal.decreases-loop-left
decreases-loop-left l = l.left
