use Rattle.std.proofs.Common.{append_assoc, append-nil}
use Rattle.ras_edges.proofs.Writing.{Stopped-longer, Writes-failed, Writes-after}
use Rattle.spec_sessions.specs.Report.{name_text_of}
use Rattle.ras_report.proofs.locks.write_lock.Goals as goal

pub returns-in_err-write_pieces : goal.returns-in_err-write_pieces
returns-in_err-write_pieces g c =
    let stopped = Stopped-longer (name_text_of c.args.lock.now) c.in_err-write_pieces.ensures in
    Writes-failed c.from_residual.result c.from_residual.ensures.0
    (simp (append_assoc, append-nil) (simp (append_assoc, append-nil, c.word_of_mode.ensures) at stopped))

pub returns : goal.returns
returns g c =
    let wrote = Writes-after _ (name_text_of c.args.lock.now) c.write_lock_name.result c.in_ok-write_pieces.ensures c.write_lock_name.ensures in
    simp (append_assoc, append-nil) (simp (append_assoc, append-nil, c.word_of_mode.ensures) at wrote)
