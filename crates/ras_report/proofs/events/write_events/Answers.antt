use Rattle.ras_edges.proofs.Writing.{Stopped-in_item, Writes-failed}
use Rattle.spec_sessions.specs.Report.{event_line}
use Rattle.ras_report.proofs.Rows.{Wrote-item}
use Rattle.ras_report.proofs.events.write_events.Goals as goal

pub returns-in_err-write_event : goal.returns-in_err-write_event
returns-in_err-write_event g c =
    Writes-failed c.from_residual.result c.from_residual.ensures.0
    (Stopped-in_item event_line _ _ _ c.loop-event-test.true c.event-item.is c.loop-event.invariant c.in_err-write_event.ensures)

pub loop-event-preserved : goal.loop-event-preserved
loop-event-preserved g c =
    Wrote-item event_line c.args.events.now c.loop-event.event-index c.event-item.result c.loop-event-test.true c.event-item.is c.loop-event.invariant c.in_ok-write_event.ensures
