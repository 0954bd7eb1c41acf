use Rattle.std.proofs.Common.{take}
use Rattle.std.specs.Prelude.{flat_map}
use Rattle.ras_edges.specs.Sink.{Wrote}
use Rattle.spec_sessions.specs.Report.{event_line}
use Rattle.ras_report.proofs.events.write_events.Given as goal

abbrev pub invariant-loop-event : goal.invariant-loop-event
invariant-loop-event g l = Wrote g.K.Sink.taken g.K.Sink.faults l.initial.sink l.sink (flat_map event_line (take l.event-index l.events))
