use Rattle.std.proofs.Common.{◌++◌, append_assoc, append-nil}
use Rattle.std.specs.Prelude.{codes, decimal}
use Rattle.ras_edges.proofs.Writing.{Wrote-more, Stopped-later, Stopped-longer, Writes-failed, Writes-after}
use Rattle.spec_sessions.specs.Report.{name_text_of}
use Rattle.ras_report.proofs.lines.write_locked.Goals as goal

pub returns-in_err-write_whole : goal.returns-in_err-write_whole
returns-in_err-write_whole g c =
    let stopped = Stopped-longer (codes " holder " ++ decimal c.args.holder ++ codes " of " ++ c.args.session.now)
    (Stopped-longer (name_text_of c.args.lock.now) c.in_err-write_whole.ensures) in
    Writes-failed c.from_residual.result c.from_residual.ensures.0 (simp (append_assoc, append-nil) (simp (append_assoc, append-nil) at stopped))

pub returns-in_err-write_lock_name : goal.returns-in_err-write_lock_name
returns-in_err-write_lock_name g c =
    let stopped = Stopped-longer (codes " holder " ++ decimal c.args.holder ++ codes " of " ++ c.args.session.now)
    (Stopped-later c.in_ok-write_whole.ensures c.in_err-write_lock_name.ensures) in
    Writes-failed c.from_residual-in_err-write_lock_name.result c.from_residual-in_err-write_lock_name.ensures.0
    (simp (append_assoc, append-nil) (simp (append_assoc, append-nil) at stopped))

pub returns : goal.returns
returns g c =
    let later = c.write_pieces.ensures in
    let wrote = Writes-after _ _ c.write_pieces.result (Wrote-more c.in_ok-write_whole.ensures c.in_ok-write_lock_name.ensures) later in
    simp (append_assoc, append-nil) (simp (append_assoc, append-nil, c.from.ensures) at wrote)
