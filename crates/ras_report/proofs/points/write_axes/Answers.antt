use Rattle.std.specs.Prelude.{codes}
use Rattle.ras_edges.proofs.Writing.{Writes-failed}
use Rattle.spec_sessions.specs.Report.{axis_text_of}
use Rattle.ras_report.proofs.Join.{Stopped-first, Writes-others}
use Rattle.ras_report.proofs.points.write_axes.Goals as goal

pub returns-in_err-write_axis : goal.returns-in_err-write_axis
returns-in_err-write_axis g c =
    Writes-failed c.from_residual.result c.from_residual.ensures.0
    (Stopped-first axis_text_of (codes ",") c.args.axes.now _ c.in-len1-up.len_at_least c.in_err-write_axis.ensures)

pub returns : goal.returns
returns g c =
    Writes-others axis_text_of (codes ",") _ c.args.axes.now _ c.write_more_axes.result c.in-len1-up.len_at_least c.in_ok-write_axis.ensures c.write_more_axes.ensures
