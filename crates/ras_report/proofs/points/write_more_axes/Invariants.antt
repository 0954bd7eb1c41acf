use Rattle.std.proofs.Common.{take, ◌++◌}
use Rattle.std.specs.Prelude.{codes, flat_map}
use Rattle.ras_edges.specs.Sink.{Wrote}
use Rattle.spec_sessions.specs.Report.{axis_text_of}
use Rattle.ras_report.proofs.points.write_more_axes.Given as goal

abbrev pub invariant-loop-axis : goal.invariant-loop-axis
invariant-loop-axis g l = Wrote g.K.Sink.taken g.K.Sink.faults l.initial.sink l.sink (flat_map (λ axis. codes "," ++ axis_text_of axis) (take l.axis-index l.axes))
