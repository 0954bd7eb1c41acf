use Rattle.std.proofs.Common.{◌≡◌, Ok, ap, map, refl, subst, sym, ◌∙◌}
use Rattle.spec_expressions.specs.Tree.{tree_of, condition_of}
use Rattle.std.specs.Option.{option_map}
use Rattle.spec_statements.specs.Effects.{values_of_plans}
use Rattle.spec_statements.specs.Reply.{row_reply_of}
use Rattle.spec_statements.specs.Statement.{request_of, target_axes}
use Rattle.law_work.specs.Writes.{writings_of}
use Rattle.ras_rows.specs.Plans.{plan_seen}
use Rattle.ras_rows.specs.Stops.{GivesOrStops, IsStop}
use Rattle.ras_eval.specs.Cells.{each_in_order}
use Rattle.ras_eval.specs.Computed.{AreReadBy, answered, computed_of_plans, computed_seen, computing_of, row_written, writing_seen_of, written}
use Rattle.ras_eval.proofs.Whole.{answered_ok, answered_stop, deleted_gives, inserted_gives, updated_gives}
use Rattle.ras_eval.proofs.evaluation.computed.Goals as goal

pub answered-requires : goal.answered-requires
answered-requires c = subst (λ form. AreReadBy (request_of form) (map plan_seen c.args.plans.now)) c.in-Select.is c.requires

pub returns-in-Ok : goal.returns-in-Ok
returns-in-Ok c =
    ap (λ form. computed_of_plans (request_of form) (map plan_seen c.args.plans.now)) c.in-Select.is
    ∙ answered_ok (values_of_plans (tree_of c.in-Select.body) (map plan_seen c.args.plans.now)) (map row_reply_of c.in-Ok.rows) c.in-Ok.ensures

pub returns-in-Err : goal.returns-in-Err
returns-in-Err c =
    subst (λ form. IsStop (computed_of_plans (request_of form) (map plan_seen c.args.plans.now)) c.in-Err.stop) (sym c.in-Select.is)
    (answered_stop (values_of_plans (tree_of c.in-Select.body) (map plan_seen c.args.plans.now)) c.in-Err.stop c.in-Err.ensures)

pub returns-in-Insert : goal.returns-in-Insert
returns-in-Insert c =
    rw c.written.ensures
    (subst (λ form. GivesOrStops (map (writing_seen_of (request_of form))) (each_in_order (row_written (request_of form)) (map plan_seen c.args.plans.now)) c.writes_of.result
    → GivesOrStops (computed_seen (request_of form)) (computed_of_plans (request_of form) (map plan_seen c.args.plans.now)) (computing_of c.writes_of.result)) (sym c.in-Insert.is)
    (inserted_gives c.in-Insert.into c.in-Insert.of (tree_of c.in-Insert.body) (map plan_seen c.args.plans.now) c.writes_of.result) c.writes_of.ensures)

pub returns-in-Delete : goal.returns-in-Delete
returns-in-Delete c =
    rw c.written-in-Delete.ensures
    (subst (λ form. GivesOrStops (map (writing_seen_of (request_of form))) (each_in_order (row_written (request_of form)) (map plan_seen c.args.plans.now)) c.writes_of-in-Delete.result
    → GivesOrStops (computed_seen (request_of form)) (computed_of_plans (request_of form) (map plan_seen c.args.plans.now)) (computing_of c.writes_of-in-Delete.result)) (sym c.in-Delete.is)
    (deleted_gives c.in-Delete.source (condition_of (option_map tree_of c.in-Delete.cond)) (map plan_seen c.args.plans.now) c.writes_of-in-Delete.result) c.writes_of-in-Delete.ensures)

pub returns-in-Update : goal.returns-in-Update
returns-in-Update c =
    rw c.written-in-Update.ensures
    (subst (λ form. GivesOrStops (map (writing_seen_of (request_of form))) (each_in_order (row_written (request_of form)) (map plan_seen c.args.plans.now)) c.writes_of-in-Update.result
    → GivesOrStops (computed_seen (request_of form)) (computed_of_plans (request_of form) (map plan_seen c.args.plans.now)) (computing_of c.writes_of-in-Update.result)) (sym c.in-Update.is)
    (updated_gives c.in-Update.source (option_map target_axes c.in-Update.axes) c.in-Update.target (tree_of c.in-Update.body) (condition_of (option_map tree_of c.in-Update.cond))
    (map plan_seen c.args.plans.now) c.writes_of-in-Update.result) c.writes_of-in-Update.ensures)
