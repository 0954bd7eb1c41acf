use Rattle.std.proofs.Common.{length, arith}
use Rattle.std.specs.Prelude.{◌≢◌, codes}
use Rattle.std.specs.Fmt.{signed_decimal}
use Rattle.std.specs.List.{join_by}
use Rattle.ras_edges.proofs.Writing.{Wrote-more, Stopped-later, Stopped-longer, Writes-failed, Writes-after}
use Rattle.ras_report.proofs.Parts.{in_braces}
use Rattle.ras_report.proofs.values.write_components.Goals as goal

pub returns-in_err-write_whole : goal.returns-in_err-write_whole
returns-in_err-write_whole g c =
    let many : length c.args.numbers.now ≢ 1 = omega arith in
    let stopped = Stopped-longer (codes "}") (Stopped-longer (join_by signed_decimal (codes ",") c.args.numbers.now) c.in_err-write_whole.ensures) in
    rw (in_braces c.args.numbers.now many) (Writes-failed c.from_residual.result c.from_residual.ensures.0 stopped)

pub returns-in_err-write_numbers : goal.returns-in_err-write_numbers
returns-in_err-write_numbers g c =
    let many : length c.args.numbers.now ≢ 1 = omega arith in
    let stopped = Stopped-longer (codes "}") (Stopped-later c.in_ok-write_whole.ensures c.in_err-write_numbers.ensures) in
    rw (in_braces c.args.numbers.now many)
    (Writes-failed c.from_residual-in_err-write_numbers.result c.from_residual-in_err-write_numbers.ensures.0 stopped)

pub returns : goal.returns
returns g c =
    let many : length c.args.numbers.now ≢ 1 = omega arith in
    rw (in_braces c.args.numbers.now many)
    (Writes-after _ (codes "}") c.write_whole-2.result (Wrote-more c.in_ok-write_whole.ensures c.in_ok-write_numbers.ensures) c.write_whole-2.ensures)
