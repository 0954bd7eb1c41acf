use Rattle.std.proofs.Common.{append-nil}
use Rattle.std.specs.Prelude.{codes}
use Rattle.std.specs.Fmt.{signed_decimal}
use Rattle.ras_edges.proofs.Writing.{Writes-failed}
use Rattle.ras_report.proofs.Join.{Stopped-first, Writes-others}
use Rattle.ras_report.proofs.points.write_numbers.Goals as goal

pub returns-in_err-write_pieces : goal.returns-in_err-write_pieces
returns-in_err-write_pieces g c =
    let stopped = c.in_err-write_pieces.ensures in
    Writes-failed c.from_residual.result c.from_residual.ensures.0
    (Stopped-first signed_decimal (codes ",") c.args.numbers.now _ c.in-len1-up.len_at_least (rw append-nil at stopped))

pub returns : goal.returns
returns g c =
    let wrote = c.in_ok-write_pieces.ensures in
    Writes-others signed_decimal (codes ",") _ c.args.numbers.now _ c.write_more_numbers.result c.in-len1-up.len_at_least (rw append-nil at wrote) c.write_more_numbers.ensures
