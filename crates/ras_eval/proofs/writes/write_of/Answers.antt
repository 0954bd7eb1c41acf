use Rattle.std.proofs.Common.{ap, subst, sym}
use Rattle.ras_rows.specs.Plans.{plan_seen}
use Rattle.ras_rows.specs.Stops.{GivesOrStops}
use Rattle.spec_statements.specs.Statement.{request_of}
use Rattle.ras_eval.specs.Computed.{row_written, writing_seen_of}
use Rattle.ras_eval.proofs.writes.write_of.Goals as goal

pub returns-in-Insert : goal.returns-in-Insert
returns-in-Insert c =
    subst (λ form. GivesOrStops (writing_seen_of (request_of form)) (row_written (request_of form) (plan_seen c.args.plan.now)) c.insert.result) (sym c.in-Insert.is) c.insert.ensures

pub returns-in-Update : goal.returns-in-Update
returns-in-Update c =
    subst (λ form. GivesOrStops (writing_seen_of (request_of form)) (row_written (request_of form) (plan_seen c.args.plan.now)) c.update.result) (sym c.in-Update.is) c.update.ensures

pub returns-in-Delete : goal.returns-in-Delete
returns-in-Delete c =
    subst (λ form. GivesOrStops (writing_seen_of (request_of form)) (row_written (request_of form) (plan_seen c.args.plan.now)) c.delete.result) (sym c.in-Delete.is) c.delete.ensures
