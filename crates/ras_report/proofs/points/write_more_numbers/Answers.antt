use Rattle.std.proofs.Common.{◌++◌, append-nil}
use Rattle.std.specs.Prelude.{codes}
use Rattle.std.specs.Fmt.{signed_decimal}
use Rattle.ras_edges.proofs.Writing.{Stopped-in, Writes-failed}
use Rattle.ras_report.proofs.points.write_more_numbers.Goals as goal

pub returns-in_err-write_pieces : goal.returns-in_err-write_pieces
returns-in_err-write_pieces g c =
    let stopped = c.in_err-write_pieces.ensures in
    Writes-failed c.from_residual.result c.from_residual.ensures.0
    (Stopped-in (λ n. codes "," ++ signed_decimal n) _ _ _ c.loop-n-test.true c.loop-n.invariant (rw append-nil at stopped))
