use Rattle.std.proofs.Common.{take}
use Rattle.std.specs.Prelude.{codes}
use Rattle.std.specs.List.{join_by}
use Rattle.ras_edges.specs.Sink.{Wrote}
use Rattle.spec_sessions.specs.Report.{lock_text_of}
use Rattle.ras_report.proofs.locks.write_locks.Given as goal

abbrev pub invariant-loop-place : goal.invariant-loop-place
invariant-loop-place g l = Wrote g.K.Sink.taken g.K.Sink.faults l.initial.sink l.sink (join_by lock_text_of (codes ", ") (take l.place l.list))
