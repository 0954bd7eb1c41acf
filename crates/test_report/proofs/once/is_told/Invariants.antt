use Rattle.std.proofs.Common.{◌≡◌, [], take}
use Rattle.std.specs.Prelude.{filter}
use Rattle.spec_sessions.specs.Report.{answers_statement}
use Rattle.test_report.proofs.once.is_told.Given as goal

abbrev pub invariant-loop-event : goal.invariant-loop-event
invariant-loop-event l = filter (answers_statement l.of l.at) (take l.event-index l.events) ≡ []
