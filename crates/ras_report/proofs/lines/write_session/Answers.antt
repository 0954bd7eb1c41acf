use Rattle.std.specs.Prelude.{flat_map}
use Rattle.ras_edges.proofs.Writing.{Stopped-longer, Writes-failed, Writes-after}
use Rattle.spec_sessions.specs.Report.{line_text}
use Rattle.ras_report.proofs.lines.write_session.Goals as goal

pub returns-in_err-write_pieces : goal.returns-in_err-write_pieces
returns-in_err-write_pieces g c =
    let stopped = Stopped-longer (flat_map (line_text c.args.scripts.now c.args.history.now) c.args.lines.now) c.in_err-write_pieces.ensures in
    Writes-failed c.from_residual.result c.from_residual.ensures.0 (rw c.bytes.ensures at stopped)

pub returns : goal.returns
returns g c =
    let wrote = Writes-after _ (flat_map (line_text c.args.scripts.now c.args.history.now) c.args.lines.now) c.write_lines.result
    c.in_ok-write_pieces.ensures c.write_lines.ensures in
    rw c.bytes.ensures at wrote
