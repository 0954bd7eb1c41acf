use Rattle.std.proofs.Common.{◌++◌}
use Rattle.std.specs.Prelude.{codes}
use Rattle.ras_edges.proofs.Writing.{Writes-failed}
use Rattle.spec_sessions.specs.Report.{row_text_of}
use Rattle.spec_statements.specs.Reply.{row_reply_of}
use Rattle.ras_report.proofs.Rows.{Wrote-next, Stopped-next}
use Rattle.ras_report.proofs.values.write_rows.Goals as goal

pub returns-in_err-write_row : goal.returns-in_err-write_row
returns-in_err-write_row g c =
    Writes-failed c.from_residual.result c.from_residual.ensures.0
    (Stopped-next (λ row. codes "\nrow " ++ row_text_of (row_reply_of row)) c.args.rows.now _ _ c.get.ensures c.loop-place.invariant c.in_err-write_row.ensures)

pub loop-place-preserved : goal.loop-place-preserved
loop-place-preserved g c =
    Wrote-next (λ row. codes "\nrow " ++ row_text_of (row_reply_of row)) c.args.rows.now c.loop-place.place _ c.get.ensures c.loop-place.invariant c.in_ok-write_row.ensures
