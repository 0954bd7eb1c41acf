use Rattle.std.proofs.Common.{◌++◌, append_assoc, append-nil}
use Rattle.std.specs.Prelude.{codes, flat_map}
use Rattle.ras_edges.proofs.Writing.{Stopped-longer, Writes-failed, Writes-after}
use Rattle.spec_sessions.specs.Report.{row_text_of}
use Rattle.spec_statements.specs.Reply.{row_reply_of}
use Rattle.ras_report.proofs.answers.write_value.Goals as goal

pub returns-in_err-write_pieces : goal.returns-in_err-write_pieces
returns-in_err-write_pieces g c =
    let stopped = Stopped-longer (flat_map (λ row. codes "\nrow " ++ row_text_of (row_reply_of row)) c.args.rows.now) c.in_err-write_pieces.ensures in
    Writes-failed c.from_residual.result c.from_residual.ensures.0 (simp (append_assoc, append-nil) (simp (append_assoc, append-nil, c.len.ensures) at stopped))

pub returns : goal.returns
returns g c =
    let wrote = Writes-after _ (flat_map (λ row. codes "\nrow " ++ row_text_of (row_reply_of row)) c.args.rows.now) c.write_rows.result
    c.in_ok-write_pieces.ensures c.write_rows.ensures in
    simp (append_assoc, append-nil) (simp (append_assoc, append-nil, c.len.ensures) at wrote)
