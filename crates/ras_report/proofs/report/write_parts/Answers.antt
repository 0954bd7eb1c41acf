use Rattle.std.specs.Prelude.{codes, flat_map}
use Rattle.ras_edges.proofs.Writing.{Wrote-more, Stopped-later, Stopped-longer, Writes-failed, Writes-after}
use Rattle.spec_sessions.specs.Report.{event_line, sessions_text_of}
use Rattle.ras_report.proofs.report.write_parts.Goals as goal

pub returns-in_err-write_whole : goal.returns-in_err-write_whole
returns-in_err-write_whole g c =
    let sessions = sessions_text_of c.args.scripts.now c.args.history.now c.args.scripts.now c.args.answers.now in
    Writes-failed c.from_residual.result c.from_residual.ensures.0
    (Stopped-longer (codes "#end\n") (Stopped-longer (flat_map event_line c.args.history.now) (Stopped-longer (codes "#history\n")
    (Stopped-longer sessions c.in_err-write_whole.ensures))))

pub returns-in_err-write_sessions : goal.returns-in_err-write_sessions
returns-in_err-write_sessions g c =
    Writes-failed c.from_residual-in_err-write_sessions.result c.from_residual-in_err-write_sessions.ensures.0
    (Stopped-longer (codes "#end\n") (Stopped-longer (flat_map event_line c.args.history.now) (Stopped-longer (codes "#history\n")
    (Stopped-later c.in_ok-write_whole.ensures c.in_err-write_sessions.ensures))))

pub returns-in_err-write_whole-2 : goal.returns-in_err-write_whole-2
returns-in_err-write_whole-2 g c =
    Writes-failed c.from_residual-in_err-write_whole-2.result c.from_residual-in_err-write_whole-2.ensures.0
    (Stopped-longer (codes "#end\n") (Stopped-longer (flat_map event_line c.args.history.now)
    (Stopped-later (Wrote-more c.in_ok-write_whole.ensures c.in_ok-write_sessions.ensures) c.in_err-write_whole-2.ensures)))

pub returns-in_err-write_events : goal.returns-in_err-write_events
returns-in_err-write_events g c =
    Writes-failed c.from_residual-in_err-write_events.result c.from_residual-in_err-write_events.ensures.0
    (Stopped-longer (codes "#end\n")
    (Stopped-later (Wrote-more (Wrote-more c.in_ok-write_whole.ensures c.in_ok-write_sessions.ensures) c.in_ok-write_whole-2.ensures) c.in_err-write_events.ensures))

pub returns : goal.returns
returns g c =
    Writes-after _ (codes "#end\n") c.write_whole-3.result
    (Wrote-more (Wrote-more (Wrote-more c.in_ok-write_whole.ensures c.in_ok-write_sessions.ensures) c.in_ok-write_whole-2.ensures) c.in_ok-write_events.ensures)
    c.write_whole-3.ensures
