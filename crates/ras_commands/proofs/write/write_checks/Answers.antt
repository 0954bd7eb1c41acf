use Rattle.std.specs.Prelude.{codes}
use Rattle.ras_edges.proofs.Writing.{Wrote-more, Stopped-later, Stopped-longer, Writes-failed, Writes-after}
use Rattle.ras_commands.specs.Texts.{sessions_of}
use Rattle.ras_commands.proofs.write.write_checks.Goals as goal

pub returns-in_err-write_whole : goal.returns-in_err-write_whole
returns-in_err-write_whole g c =
    let sessions = sessions_of c.args.scripts.now c.args.checks.now.sessions in
    Writes-failed c.from_residual.result c.from_residual.ensures.0
    (Stopped-longer (codes "#end\n") (Stopped-longer sessions c.in_err-write_whole.ensures))

pub returns-in_err-write_sessions : goal.returns-in_err-write_sessions
returns-in_err-write_sessions g c =
    let stopped = Stopped-longer (codes "#end\n") (Stopped-later c.in_ok-write_whole.ensures c.in_err-write_sessions.ensures) in
    Writes-failed c.from_residual-in_err-write_sessions.result c.from_residual-in_err-write_sessions.ensures.0
    (rw c.as_slice.ensures at stopped)

pub returns : goal.returns
returns g c =
    let wrote = Writes-after _ (codes "#end\n") c.write_whole-2.result (Wrote-more c.in_ok-write_whole.ensures c.in_ok-write_sessions.ensures) c.write_whole-2.ensures in
    rw c.as_slice.ensures at wrote
