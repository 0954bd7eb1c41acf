use Rattle.std.proofs.Common.{take}
use Rattle.ras_edges.specs.Sink.{Wrote}
use Rattle.spec_sessions.specs.Report.{sessions_text_of}
use Rattle.ras_report.proofs.report.write_sessions.Given as goal

abbrev pub invariant-loop-place : goal.invariant-loop-place
invariant-loop-place g l =
    Wrote g.K.Sink.taken g.K.Sink.faults l.initial.sink l.sink (sessions_text_of l.scripts l.history (take l.place l.scripts) (take l.place l.answers))
