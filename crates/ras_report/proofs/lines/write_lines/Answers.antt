use Rattle.ras_edges.proofs.Writing.{Stopped-in_item, Writes-failed}
use Rattle.spec_sessions.specs.Report.{line_text}
use Rattle.ras_report.proofs.lines.write_lines.Goals as goal

pub returns-in_err-write_line : goal.returns-in_err-write_line
returns-in_err-write_line g c =
    Writes-failed c.from_residual.result c.from_residual.ensures.0
    (Stopped-in_item (line_text c.args.scripts.now c.args.history.now) _ _ _ c.loop-line-test.true c.line-item.is c.loop-line.invariant c.in_err-write_line.ensures)
