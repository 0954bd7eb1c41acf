use Rattle.std.proofs.Common.{[], ◌∙◌}
use Rattle.std.specs.Arc.{arc_value}
use Rattle.spec_sessions.specs.Outcomes.{turns_of}
use Rattle.ras_server.proofs.Follows.{drains_first, kept_if_ok}
use Rattle.ras_server.proofs.runs.run_keeping.Goals as goal

pub go_to_ends-requires-clause-draining : goal.go_to_ends-requires-clause-draining
go_to_ends-requires-clause-draining g c = λ κs within. (
  turns_of c.args.schedule.now,
  drains_first (turns_of c.args.schedule.now) c.follow.new.self (c.in_ok-follow.ensures.follows [] c.in_ok-run.ensures.follows),
)

pub returns : goal.returns
returns g c =
    kept_if_ok c.close.result c.go_to_ends.new.self (arc_value c.args.workload) c.args.schedule.now
    (c.in_ok-go_to_ends.ensures.same.workload ∙ c.in_ok-follow.ensures.same.workload ∙ c.in_ok-run.ensures.workload)
    (c.in_ok-go_to_ends.ensures.drains (turns_of c.args.schedule.now)
    (drains_first (turns_of c.args.schedule.now) c.follow.new.self (c.in_ok-follow.ensures.follows [] c.in_ok-run.ensures.follows)))
    c.close.ensures
