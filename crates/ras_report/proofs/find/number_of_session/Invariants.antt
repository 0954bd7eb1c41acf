use Rattle.std.proofs.Common.{◌≡◌, take}
use Rattle.std.specs.Prelude.{None, find}
use Rattle.spec_sessions.specs.Report.{begins}
use Rattle.ras_report.proofs.find.number_of_session.Given as goal

abbrev pub invariant-loop-event : goal.invariant-loop-event
invariant-loop-event l = find (begins l.t) (take l.event-index l.history) ≡ None
