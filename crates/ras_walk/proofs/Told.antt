-- What comes of an event is what comes of any other that tells the same.
use Rattle.std.proofs.Common.{◌≡◌, ℕ, Option, Bool, true, false, if◌then◌else◌, refl, sym, ap}
use Rattle.ras_syntax.specs.declared.event.Event.{Event}
use Rattle.ras_syntax.specs.declared.event.Event.TheVariants.{Begun, Granted, Refused, Answered, GaveUp, Committed, Aborted}
use Rattle.spec_statements.specs.Reply.{reply_of_answer}
use Rattle.spec_sessions.specs.Walk.{Closed, Opened, ScriptItem, SessionPlace, after_event, at_data, by_failure, by_giving_up, by_success, ending, free, goes_to, if_data, in_ending, in_free, in_inside, in_leaving, in_own, inside, is_success, leaving, lost, own, recorded, told, with_bad}
use Rattle.ras_walk.specs.Places.{event_of, some_answer, told_of_event}

-- an answer that tells whether it is a success
some-success : (good : Bool) → is_success (reply_of_answer (some_answer good)) ≡ good
some-success true = refl
some-success false = refl

free-told : (k : ℕ) (item : ScriptItem) (attempts : Option ℕ) (event : Event) → in_free k item attempts event ≡ in_free k item attempts (event_of (told_of_event event))
free-told k item attempts (Begun u i n) = refl
free-told k item attempts (Granted u n p list) = refl
free-told k item attempts (Refused u n p lock mode holder) = refl
free-told k item attempts (Answered u n answer) = refl
free-told k item attempts (GaveUp u n) = refl
free-told k item attempts (Committed u n) = refl
free-told k item attempts (Aborted u) = refl

data-told : (k : ℕ) (opened : Opened) (granted : Bool) (event : Event) → at_data k opened granted event ≡ at_data k opened granted (event_of (told_of_event event))
data-told k opened granted (Begun u i n) = refl
data-told k opened granted (Granted u n p list) = refl
data-told k opened granted (Refused u n p lock mode holder) = refl
data-told k opened granted (Answered u n answer) =
    ap (λ good. told k recorded (inside (if good then opened else with_bad opened k) false)) (sym (some-success (is_success (reply_of_answer answer))))
data-told k opened true (GaveUp u n) = refl
data-told k opened false (GaveUp u n) = refl
data-told k opened granted (Committed u n) = refl
data-told k opened granted (Aborted u) = refl

inside-told : (k : ℕ) (item : ScriptItem) (opened : Opened) (granted : Bool) (event : Event)
    → in_inside k item opened granted event ≡ in_inside k item opened granted (event_of (told_of_event event))
inside-told k item opened granted (Begun u i n) = ap (if_data item) (data-told k opened granted (Begun u i n))
inside-told k item opened granted (Granted u n p list) = ap (if_data item) (data-told k opened granted (Granted u n p list))
inside-told k item opened granted (Refused u n p lock mode holder) = ap (if_data item) (data-told k opened granted (Refused u n p lock mode holder))
inside-told k item opened granted (Answered u n answer) = ap (if_data item) (data-told k opened granted (Answered u n answer))
inside-told k item opened granted (GaveUp u n) = ap (if_data item) (data-told k opened granted (GaveUp u n))
inside-told k item opened granted (Committed u n) = refl
inside-told k item opened granted (Aborted u) = refl

leaving-told : (opened : Opened) (event : Event) → in_leaving opened event ≡ in_leaving opened (event_of (told_of_event event))
leaving-told opened (Begun u i n) = refl
leaving-told opened (Granted u n p list) = refl
leaving-told opened (Refused u n p lock mode holder) = refl
leaving-told opened (Answered u n answer) = refl
leaving-told opened (GaveUp u n) = refl
leaving-told opened (Committed u n) = refl
leaving-told opened (Aborted u) = refl

own-told : (k t : ℕ) (granted : Bool) (event : Event) → in_own k t granted event ≡ in_own k t granted (event_of (told_of_event event))
own-told k t granted (Begun u i n) = refl
own-told k t granted (Granted u n p list) = refl
own-told k t granted (Refused u n p lock mode holder) = refl
own-told k t granted (Answered u n answer) =
    ap (λ good. goes_to k (ending t (if good then by_success else by_failure))) (sym (some-success (is_success (reply_of_answer answer))))
own-told k t true (GaveUp u n) = refl
own-told k t false (GaveUp u n) = refl
own-told k t granted (Committed u n) = refl
own-told k t true (Aborted u) = refl
own-told k t false (Aborted u) = refl

ending-told : (k : ℕ) (closed : Closed) (event : Event) → in_ending k closed event ≡ in_ending k closed (event_of (told_of_event event))
ending-told k by_success (Begun u i n) = refl
ending-told k by_success (Granted u n p list) = refl
ending-told k by_success (Refused u n p lock mode holder) = refl
ending-told k by_success (Answered u n answer) = refl
ending-told k by_success (GaveUp u n) = refl
ending-told k by_success (Committed u n) = refl
ending-told k by_success (Aborted u) = refl
ending-told k by_failure (Begun u i n) = refl
ending-told k by_failure (Granted u n p list) = refl
ending-told k by_failure (Refused u n p lock mode holder) = refl
ending-told k by_failure (Answered u n answer) = refl
ending-told k by_failure (GaveUp u n) = refl
ending-told k by_failure (Committed u n) = refl
ending-told k by_failure (Aborted u) = refl
ending-told k by_giving_up (Begun u i n) = refl
ending-told k by_giving_up (Granted u n p list) = refl
ending-told k by_giving_up (Refused u n p lock mode holder) = refl
ending-told k by_giving_up (Answered u n answer) = refl
ending-told k by_giving_up (GaveUp u n) = refl
ending-told k by_giving_up (Committed u n) = refl
ending-told k by_giving_up (Aborted u) = refl

pub event-told : (k : ℕ) (item : ScriptItem) (place : SessionPlace) (event : Event)
    → after_event k item place event ≡ after_event k item place (event_of (told_of_event event))
event-told k item (free attempts) event = free-told k item attempts event
event-told k item lost event = refl
event-told k item (inside opened granted) event = inside-told k item opened granted event
event-told k item (leaving opened) event = leaving-told opened event
event-told k item (own t granted) event = own-told k t granted event
event-told k item (ending t closed) event = ending-told k closed event
