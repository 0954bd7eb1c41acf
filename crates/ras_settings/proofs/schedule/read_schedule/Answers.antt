use Rattle.std.proofs.Common.{◌≡◌, ◌∙◌, ◌≤◌, ◌++◌, ◌∷◌, [], ℕ, List, Bool, cond, Option, Some, None, ap, sym, subst, arith, length, take, take_all, length-take}
use Rattle.std.specs.Prelude.{option_map}
use Rattle.ras_settings.specs.Reading.{Reading, read_from, reading_of, start, turns_at}
use Rattle.ras_settings.specs.Schedule.{BreaksAt, IsSchedule}
use Rattle.ras_settings.proofs.Readings.{breaks_at_end, breaks_within, read_more, schedule_from, short}
use Rattle.ras_settings.proofs.schedule.read_schedule.Goals as goal

abbrev chosen : Reading → Bool → Option Reading
chosen next goes = cond goes (Some next) None

pub overflow_cast-result : goal.overflow_cast-result
overflow_cast-result c =
    let within = c.loop-place.auto.place-end in
    let taken = length-take c.loop-place.place c.as_bytes-byte-items.result.now in
    let small = short (take c.loop-place.place c.as_bytes-byte-items.result.now) (reading_of c.loop-place.reader) c.loop-place.invariant.read in
    omega arith

pub returns-then-not-goes_on : goal.returns-then-not-goes_on
returns-then-not-goes_on c =
    subst (λ t. BreaksAt t c.loop-place.place) c.loop-place.invariant.same
    (breaks_within c.as_bytes-byte-items.result.now c.loop-place.place (reading_of c.loop-place.reader) c.loop-place-test.true c.loop-place.invariant.read
    (c.in-Ok.ensures ∙ ap (chosen (reading_of c.step.new.self)) c.if-not-goes_on.true))

pub loop-place-preserved : goal.loop-place-preserved
loop-place-preserved c = record {
  same = c.loop-place.invariant.same;
  read = read_more c.as_bytes-byte-items.result.now c.loop-place.place (reading_of c.loop-place.reader) (reading_of c.step.new.self) c.loop-place-test.true
      c.loop-place.invariant.read (c.in-Ok.ensures ∙ ap (chosen (reading_of c.step.new.self)) c.if-not-goes_on.false);
}

-- the loop has ended, so the whole text is read
all_read : (bytes text : List ℕ) (place : ℕ) (r : Reading) → bytes ≡ text → length bytes ≤ place → read_from start (take place bytes) ≡ Some r → read_from start text ≡ Some r
all_read bytes text place r same past read = ap (read_from start) (sym (take_all place bytes past ∙ same)) ∙ read

pub overflow_cast-result-in_default-turn : goal.overflow_cast-result-in_default-turn
overflow_cast-result-in_default-turn c =
    let small = short c.args.text.now _ (all_read _ c.args.text.now _ _ c.loop-place.invariant.same c.loop-place-test.false c.loop-place.invariant.read) in
    omega arith

pub returns-in_default-turn : goal.returns-in_default-turn
returns-in_default-turn c =
    breaks_at_end c.args.text.now (reading_of c.loop-place.reader)
    (all_read _ c.args.text.now _ _ c.loop-place.invariant.same c.loop-place-test.false c.loop-place.invariant.read) (sym c.turn.ensures ∙ c.in_default-turn.is)

pub returns : goal.returns
returns c =
    let r = reading_of c.loop-place.reader in
    let read = all_read _ c.args.text.now _ r c.loop-place.invariant.same c.loop-place-test.false c.loop-place.invariant.read in
    let turns : turns_at r ≡ Some (c.loop-place.reader.turns.items ++ c.in-Some.turn ∷ []) =
    ap (option_map (λ turn. c.loop-place.reader.turns.items ++ turn ∷ [])) (sym c.turn.ensures ∙ c.in-Some.is) in
    subst (IsSchedule c.args.text.now) (sym (c.of.ensures ∙ c.in-Ok-push.ensures.items)) (schedule_from c.args.text.now r _ read turns)
