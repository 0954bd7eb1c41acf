use Rattle.std.specs.Prelude.{codes}
use Rattle.ras_edges.proofs.Writing.{Writes-failed}
use Rattle.spec_sessions.specs.Report.{lock_text_of}
use Rattle.ras_report.proofs.Join.{Wrote-among, Stopped-among}
use Rattle.ras_report.proofs.locks.write_locks.Goals as goal

pub returns-in_err-write_lock : goal.returns-in_err-write_lock
returns-in_err-write_lock g c =
    let stopped = c.in_err-write_lock.ensures in
    Writes-failed c.from_residual.result c.from_residual.ensures.0
    (Stopped-among lock_text_of (codes ", ") c.args.list.now _ _ c.get-mode.ensures c.loop-place.invariant (rw c.comma_before.ensures at stopped))

pub loop-place-preserved : goal.loop-place-preserved
loop-place-preserved g c =
    let wrote = c.in_ok-write_lock.ensures in
    Wrote-among lock_text_of (codes ", ") c.args.list.now c.loop-place.place _ c.get-mode.ensures c.loop-place.invariant (rw c.comma_before.ensures at wrote)
