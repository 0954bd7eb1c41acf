use Rattle.std.proofs.Common.{◌≡◌, take}
use Rattle.std.specs.Prelude.{None, find}
use Rattle.spec_sessions.specs.Report.{answers_statement}
use Rattle.ras_report.proofs.find.place_of_answer.Given as goal

abbrev pub invariant-loop-place : goal.invariant-loop-place
invariant-loop-place l = find (answers_statement l.t l.statement) (take l.place l.events) ≡ None
