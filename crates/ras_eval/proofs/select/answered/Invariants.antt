use Rattle.std.proofs.Common.{◌≡◌, drop, map}
use Rattle.spec_expressions.specs.Tree.{tree_of}
use Rattle.spec_statements.specs.Reply.{row_reply_of}
use Rattle.ras_rows.specs.Plans.{plan_seen}
use Rattle.ras_eval.specs.Cells.{each_in_order}
use Rattle.ras_eval.specs.Computed.{row_value}
use Rattle.ras_eval.proofs.Each.{after}
use Rattle.ras_eval.proofs.select.answered.Given as goal

abbrev pub invariant-loop-plan : goal.invariant-loop-plan
invariant-loop-plan l =
    after (map row_reply_of l.rows) (each_in_order (row_value (tree_of l.body)) (drop l.plan-index (map plan_seen l.plans)))
    ≡ each_in_order (row_value (tree_of l.body)) (map plan_seen l.plans)
