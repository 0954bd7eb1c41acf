use Rattle.std.proofs.Common.{◌≡◌, drop, map}
use Rattle.spec_statements.specs.Statement.{request_of}
use Rattle.ras_rows.specs.Plans.{plan_seen}
use Rattle.ras_eval.specs.Cells.{each_in_order}
use Rattle.ras_eval.specs.Computed.{row_written, writing_seen_of}
use Rattle.ras_eval.proofs.Each.{after}
use Rattle.ras_eval.proofs.writes.writes_of.Given as goal

abbrev pub invariant-loop-plan : goal.invariant-loop-plan
invariant-loop-plan l =
    after (map (writing_seen_of (request_of l.form)) l.writes) (each_in_order (row_written (request_of l.form)) (drop l.plan-index (map plan_seen l.plans)))
    ≡ each_in_order (row_written (request_of l.form)) (map plan_seen l.plans)
