use Rattle.std.proofs.Common.{take}
use Rattle.std.specs.Prelude.{flat_map}
use Rattle.ras_edges.specs.Sink.{Wrote}
use Rattle.spec_sessions.specs.Report.{line_text}
use Rattle.ras_report.proofs.lines.write_lines.Given as goal

abbrev pub invariant-loop-line : goal.invariant-loop-line
invariant-loop-line g l = Wrote g.K.Sink.taken g.K.Sink.faults l.initial.sink l.sink (flat_map (line_text l.scripts l.history) (take l.line-index l.lines))
