use Rattle.std.proofs.Common.{◌≡◌, false, sym, ◌∙◌}
use Rattle.spec_sessions.specs.Report.{answers_statement}
use Rattle.test_report.proofs.Histories.{none_kept}
use Rattle.test_report.proofs.once.is_told.Goals as goal

pub loop-event-preserved : goal.loop-event-preserved
loop-event-preserved c =
    let event = c.event-item.result in
    let fails : answers_statement c.args.of c.args.at event ≡ false = sym c.is_told_by.ensures ∙ c.if-is_told_by.false in
    none_kept (answers_statement c.args.of c.args.at) c.args.events.now c.loop-event.event-index event c.loop-event-test.true c.loop-event.invariant c.event-item.is fails
