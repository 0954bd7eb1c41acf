-- What the definitions see of a session's place, of what comes next in its script, and of a step.
use Rattle.std.specs.Prelude.{Bool as Truth, true, false, [], Option, option_map}
use Rattle.ras_cells.specs.declared.cell.CellFault.TheVariants.{DivideByZero}
use Rattle.ras_domain.specs.declared.lock.LockName.TheVariants as locks
use Rattle.ras_domain.specs.declared.lock.Mode.TheVariants as modes
use Rattle.ras_syntax.specs.declared.answer.Answer.{Answer}
use Rattle.ras_syntax.specs.declared.answer.Answer.TheVariants as answers
use Rattle.ras_syntax.specs.declared.event.Event.{Event}
use Rattle.ras_syntax.specs.declared.event.Event.TheVariants as events
use Rattle.spec_statements.specs.Reply.{reply_of_answer}
use Rattle.spec_sessions.specs.Walk.{After, LineReply, ScriptItem, SessionPlace, State, by_failure, by_giving_up, by_success, data_statement, ending, free, inside, is_success, leaving, lost, own, session_word, the_end, unread}
use Rattle.spec_sessions.specs.Walk.{Closed as ClosedOf, Opened as OpenedOf}
use Rattle.ras_outcome.specs.Replies.{line_reply_of}
use Rattle.ras_walk.specs.declared.place.Item.{Item}
use Rattle.ras_walk.specs.declared.place.Item.TheVariants.{End, Fault, Word, Data}
use Rattle.ras_walk.specs.declared.place.Opened.{Opened}
use Rattle.ras_walk.specs.declared.place.Closed.{Closed}
use Rattle.ras_walk.specs.declared.place.Closed.TheVariants.{Success, Failure, GivenUp}
use Rattle.ras_walk.specs.declared.place.Place.{Place}
use Rattle.ras_walk.specs.declared.place.Place.TheVariants.{Free, Lost, Inside, Leaving, Own, Ending}
use Rattle.ras_walk.specs.declared.place.Happened.{Happened}
use Rattle.ras_walk.specs.declared.place.Happened.TheVariants.{Begun, Granted, Refused, Answered, GaveUp, Committed, Aborted}
use Rattle.ras_walk.specs.declared.place.Step.{Step}

abbrev pub item_seen : Item → ScriptItem
item_seen End = the_end
item_seen (Fault fault) = unread fault
item_seen (Word written) = session_word written
item_seen Data = data_statement

abbrev pub opened_seen : Opened → OpenedOf
opened_seen opened = record { t = opened.t; from = opened.from; attempts = opened.attempts; bad = opened.bad }

abbrev pub closed_seen : Closed → ClosedOf
closed_seen Success = by_success
closed_seen Failure = by_failure
closed_seen GivenUp = by_giving_up

abbrev pub session_place_of : Place → SessionPlace
session_place_of (Free attempts) = free attempts
session_place_of Lost = lost
session_place_of (Inside opened granted) = inside (opened_seen opened) granted
session_place_of (Leaving opened) = leaving (opened_seen opened)
session_place_of (Own t granted) = own t granted
session_place_of (Ending t closed) = ending t (closed_seen closed)

abbrev pub step_seen : Step → Option LineReply × State
step_seen step = (option_map line_reply_of step.answer, record { next = step.next; place = session_place_of step.place })

abbrev pub after_of : Option Step → After
after_of step = option_map step_seen step

-- ---- events

-- what an event tells of itself
abbrev pub told_of_event : Event → Happened
told_of_event (events.Begun t session k) = Begun t
told_of_event (events.Granted t k phase list) = Granted
told_of_event (events.Refused t k phase lock mode holder) = Refused
told_of_event (events.Answered t k answer) = Answered (is_success (reply_of_answer answer))
told_of_event (events.GaveUp t k) = GaveUp
told_of_event (events.Committed t n) = Committed n
told_of_event (events.Aborted t) = Aborted

abbrev pub some_answer : Truth → Answer
some_answer true = answers.Value []
some_answer false = answers.Fault 1 (record { items = [] }) DivideByZero

-- an event that tells this. A walk asks nothing else of it
abbrev pub event_of : Happened → Event
event_of (Begun t) = events.Begun t 0 0
event_of Granted = events.Granted 0 0 0 []
event_of Refused = events.Refused 0 0 0 (locks.Collection []) modes.Shared 0
event_of (Answered good) = events.Answered 0 0 (some_answer good)
event_of GaveUp = events.GaveUp 0 0
event_of (Committed n) = events.Committed 0 n
event_of Aborted = events.Aborted 0
