use Rattle.std.specs.Prelude.{codes}
use Rattle.std.specs.List.{join_by}
use Rattle.ras_edges.proofs.Writing.{Wrote-more, Stopped-later, Stopped-longer, Writes-failed, Writes-after}
use Rattle.spec_sessions.specs.Report.{axis_text_of}
use Rattle.ras_report.proofs.points.write_box.Goals as goal

pub returns-in_err-write_whole : goal.returns-in_err-write_whole
returns-in_err-write_whole g c =
    Writes-failed c.from_residual.result c.from_residual.ensures.0
    (Stopped-longer (codes "]") (Stopped-longer (join_by axis_text_of (codes ",") c.args.axes.now) c.in_err-write_whole.ensures))

pub returns-in_err-write_axes : goal.returns-in_err-write_axes
returns-in_err-write_axes g c =
    Writes-failed c.from_residual-in_err-write_axes.result c.from_residual-in_err-write_axes.ensures.0
    (Stopped-longer (codes "]") (Stopped-later c.in_ok-write_whole.ensures c.in_err-write_axes.ensures))

pub returns : goal.returns
returns g c = Writes-after _ (codes "]") c.write_whole-2.result (Wrote-more c.in_ok-write_whole.ensures c.in_ok-write_axes.ensures) c.write_whole-2.ensures
