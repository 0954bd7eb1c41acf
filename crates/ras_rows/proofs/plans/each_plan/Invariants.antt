use Rattle.std.proofs.Common.{◌≡◌, drop, map}
use Rattle.ras_rows.specs.Arrays.{holdings_in}
use Rattle.ras_rows.specs.Plans.{plan_seen, rows_listed}
use Rattle.ras_rows.proofs.Turns.{after}
use Rattle.spec_statements.specs.Plans.{plans_of}
use Rattle.spec_statements.specs.Rows.{sources_of}
use Rattle.spec_statements.specs.Statement.{request_of}
use Rattle.ras_rows.proofs.plans.each_plan.Given as goal

abbrev pub invariant-loop-place : goal.invariant-loop-place
invariant-loop-place l =
    let listed = rows_listed (holdings_in l.view) (sources_of (request_of l.checked.form)) l.rows in
    after (map plan_seen l.plans.items) (plans_of (request_of l.checked.form) (drop l.place listed)) ≡ plans_of (request_of l.checked.form) listed
