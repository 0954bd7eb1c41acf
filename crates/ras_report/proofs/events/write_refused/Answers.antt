use Rattle.std.proofs.Common.{◌++◌, append_assoc, append-nil}
use Rattle.std.specs.Prelude.{codes, decimal}
use Rattle.ras_edges.proofs.Writing.{Wrote-more, Stopped-later, Stopped-longer, Writes-failed, Writes-after}
use Rattle.spec_sessions.specs.Report.{lock_text_of}
use Rattle.ras_report.proofs.events.write_refused.Goals as goal

pub returns-in_err-write_place : goal.returns-in_err-write_place
returns-in_err-write_place g c =
    let stopped = Stopped-longer (codes " holder " ++ decimal c.args.holder ++ codes "\n")
    (Stopped-longer (lock_text_of (c.args.lock.now, c.args.mode)) c.in_err-write_place.ensures) in
    Writes-failed c.from_residual.result c.from_residual.ensures.0 (simp (append_assoc, append-nil) (simp (append_assoc, append-nil) at stopped))

pub returns-in_err-write_lock : goal.returns-in_err-write_lock
returns-in_err-write_lock g c =
    let stopped = Stopped-longer (codes " holder " ++ decimal c.args.holder ++ codes "\n") (Stopped-later c.in_ok-write_place.ensures c.in_err-write_lock.ensures) in
    Writes-failed c.from_residual-in_err-write_lock.result c.from_residual-in_err-write_lock.ensures.0
    (simp (append_assoc, append-nil) (simp (append_assoc, append-nil) at stopped))

pub returns : goal.returns
returns g c =
    let wrote = Writes-after _ _ c.write_pieces.result (Wrote-more c.in_ok-write_place.ensures c.in_ok-write_lock.ensures) c.write_pieces.ensures in
    simp (append_assoc, append-nil) (simp (append_assoc, append-nil, c.from.ensures) at wrote)
