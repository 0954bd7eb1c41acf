use Rattle.std.proofs.Common.{append_assoc, append-nil}
use Rattle.std.specs.Prelude.{codes}
use Rattle.std.specs.List.{join_by}
use Rattle.ras_edges.proofs.Writing.{Wrote-more, Stopped-later, Stopped-longer, Writes-failed, Writes-after}
use Rattle.spec_sessions.specs.Report.{lock_text_of}
use Rattle.ras_report.proofs.events.write_granted.Goals as goal

pub returns-in_err-write_place : goal.returns-in_err-write_place
returns-in_err-write_place g c =
    let stopped = Stopped-longer (codes "\n") (Stopped-longer (join_by lock_text_of (codes ", ") c.args.list.now) c.in_err-write_place.ensures) in
    Writes-failed c.from_residual.result c.from_residual.ensures.0 (simp (append_assoc, append-nil) (simp (append_assoc, append-nil) at stopped))

pub returns-in_err-write_locks : goal.returns-in_err-write_locks
returns-in_err-write_locks g c =
    let stopped = Stopped-longer (codes "\n") (Stopped-later c.in_ok-write_place.ensures c.in_err-write_locks.ensures) in
    Writes-failed c.from_residual-in_err-write_locks.result c.from_residual-in_err-write_locks.ensures.0
    (simp (append_assoc, append-nil) (simp (append_assoc, append-nil) at stopped))

pub returns : goal.returns
returns g c =
    let wrote = Writes-after _ (codes "\n") c.write_whole.result (Wrote-more c.in_ok-write_place.ensures c.in_ok-write_locks.ensures) c.write_whole.ensures in
    simp (append_assoc, append-nil) (simp (append_assoc, append-nil) at wrote)
