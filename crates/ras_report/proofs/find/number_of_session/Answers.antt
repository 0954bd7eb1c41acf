use Rattle.std.proofs.Common.{◌≡◌, true, false, sym, ◌∙◌, ap}
use Rattle.spec_sessions.specs.Report.{begins, session_in}
use Rattle.ras_report.proofs.Found.{none_more, found_item}
use Rattle.ras_report.proofs.find.number_of_session.Goals as goal

pub returns-then-begins_here : goal.returns-then-begins_here
returns-then-begins_here c =
    let event = c.event-item.result in
    let passes : begins c.args.t event ≡ true = sym c.begins_here.ensures ∙ c.if-begins_here.true in
    c.session_begun.ensures
    ∙ ap session_in (sym (found_item (begins c.args.t) c.args.history.now c.loop-event.event-index event c.loop-event-test.true c.loop-event.invariant c.event-item.is passes))

pub loop-event-preserved : goal.loop-event-preserved
loop-event-preserved c =
    let event = c.event-item.result in
    let fails : begins c.args.t event ≡ false = sym c.begins_here.ensures ∙ c.if-begins_here.false in
    none_more (begins c.args.t) c.args.history.now c.loop-event.event-index event c.loop-event-test.true c.loop-event.invariant c.event-item.is fails
