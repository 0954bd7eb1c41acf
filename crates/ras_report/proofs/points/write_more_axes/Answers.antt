use Rattle.std.proofs.Common.{◌++◌}
use Rattle.std.specs.Prelude.{codes}
use Rattle.ras_edges.proofs.Writing.{Stopped-in, Writes-failed}
use Rattle.spec_sessions.specs.Report.{axis_text_of}
use Rattle.ras_report.proofs.points.write_more_axes.Goals as goal

pub returns-in_err-write_axis : goal.returns-in_err-write_axis
returns-in_err-write_axis g c =
    Writes-failed c.from_residual.result c.from_residual.ensures.0
    (Stopped-in (λ axis. codes "," ++ axis_text_of axis) _ _ _ c.loop-axis-test.true c.loop-axis.invariant c.in_err-write_axis.ensures)
