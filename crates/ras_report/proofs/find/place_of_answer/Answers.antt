use Rattle.std.proofs.Common.{◌≡◌, length, true, false, refl, sym, ◌∙◌}
use Rattle.std.proofs.lemmas.Option.{slice_get_read}
use Rattle.spec_sessions.specs.Report.{answers_statement}
use Rattle.ras_report.proofs.Found.{none_more, found_item}
use Rattle.ras_report.proofs.find.place_of_answer.Goals as goal

pub returns-then-is_answer_of : goal.returns-then-is_answer_of
returns-then-is_answer_of c =
    let event = c.index-events-place.result in
    let passes : answers_statement c.args.t c.args.statement event ≡ true = sym c.is_answer_of.ensures ∙ c.if-is_answer_of.true in
    let found = found_item (answers_statement c.args.t c.args.statement) c.args.events.now c.loop-place.place event
    c.loop-place-test.true c.loop-place.invariant c.index-events-place.is passes in (
      c.loop-place-test.true,
      found ∙ sym (slice_get_read c.args.events.now (length c.args.events.now) c.loop-place.place event refl c.loop-place-test.true c.index-events-place.is),
    )

pub loop-place-preserved : goal.loop-place-preserved
loop-place-preserved c =
    let event = c.index-events-place.result in
    let fails : answers_statement c.args.t c.args.statement event ≡ false = sym c.is_answer_of.ensures ∙ c.if-is_answer_of.false in
    none_more (answers_statement c.args.t c.args.statement) c.args.events.now c.loop-place.place event
    c.loop-place-test.true c.loop-place.invariant c.index-events-place.is fails
