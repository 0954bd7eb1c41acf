use Rattle.std.specs.Prelude.{codes}
use Rattle.std.specs.Fmt.{signed_decimal}
use Rattle.std.specs.List.{join_by}
use Rattle.ras_edges.proofs.Writing.{Wrote-more, Stopped-later, Stopped-longer, Writes-failed, Writes-after}
use Rattle.ras_report.proofs.points.write_point.Goals as goal

pub returns-in_err-write_whole : goal.returns-in_err-write_whole
returns-in_err-write_whole g c =
    Writes-failed c.from_residual.result c.from_residual.ensures.0
    (Stopped-longer (codes "]") (Stopped-longer (join_by signed_decimal (codes ",") c.args.point.now) c.in_err-write_whole.ensures))

pub returns-in_err-write_numbers : goal.returns-in_err-write_numbers
returns-in_err-write_numbers g c =
    Writes-failed c.from_residual-in_err-write_numbers.result c.from_residual-in_err-write_numbers.ensures.0
    (Stopped-longer (codes "]") (Stopped-later c.in_ok-write_whole.ensures c.in_err-write_numbers.ensures))

pub returns : goal.returns
returns g c = Writes-after _ (codes "]") c.write_whole-2.result (Wrote-more c.in_ok-write_whole.ensures c.in_ok-write_numbers.ensures) c.write_whole-2.ensures
