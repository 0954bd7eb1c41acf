use Rattle.std.proofs.Common.{take, ◌++◌}
use Rattle.std.specs.Prelude.{codes, flat_map}
use Rattle.ras_edges.specs.Sink.{Wrote}
use Rattle.spec_sessions.specs.Report.{cell_text_of}
use Rattle.ras_report.proofs.values.write_cells.Given as goal

abbrev pub invariant-loop-place : goal.invariant-loop-place
invariant-loop-place g l = Wrote g.K.Sink.taken g.K.Sink.faults l.initial.sink l.sink (flat_map (λ cell. codes " " ++ cell_text_of cell) (take l.place l.cells.cells))
