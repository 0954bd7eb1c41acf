-- The walk of a session through its script: which events and lines may come at each statement, and what comes then. The event
-- and the state determine the line, so a step is an event, or a line without one, which may be for want of memory.
use Rattle.std.specs.Prelude.{ℕ, zero, suc, ◌-◌, ◌==◌, Bool as Truth, true, false, ◌&&◌, if◌then◌else◌, List, [], ◌∷◌, ◌++◌, Option, Some, None, Result, Ok, Err}
use Rattle.ras_syntax.specs.declared.event.Event.{Event}
use Rattle.ras_syntax.specs.declared.event.Event.TheVariants.{Begun, Granted, Refused, Answered, GaveUp, Committed, Aborted}
use Rattle.ras_syntax.specs.declared.faults.SyntaxFault.{SyntaxFault}
use Rattle.ras_syntax.specs.declared.statement.Statement.{Statement}
use Rattle.ras_syntax.specs.declared.statement.StatementForm.{StatementForm}
use Rattle.ras_syntax.specs.declared.statement.StatementForm.TheVariants as forms
use Rattle.ras_syntax.specs.declared.statement.Word.{Word}
use Rattle.ras_syntax.specs.declared.statement.Word.TheVariants.{Begin, Commit, Abort}
use Rattle.spec_histories.specs.History.{nth}
use Rattle.spec_statements.specs.Reply.{Reply, done, faulty, misfit, reply_of_answer, unchecked, values}

-- ---- scripts

-- each text's statement, or why it is none
abbrev pub ReadScript : Type 0
ReadScript = List (Result Statement SyntaxFault)

pub data ScriptItem : Type 0 where
  -- past the last statement
  the_end : ScriptItem
  unread : SyntaxFault → ScriptItem
  session_word : Word → ScriptItem
  data_statement : ScriptItem

abbrev pub item_of_form : StatementForm → ScriptItem
item_of_form (forms.Word w) = session_word w
item_of_form form = data_statement

abbrev pub item_of : Option (Result Statement SyntaxFault) → ScriptItem
item_of None = the_end
item_of (Some (Err fault)) = unread fault
item_of (Some (Ok statement)) = item_of_form statement.form

-- the statement of a number, counted from 1
abbrev pub item_at : ReadScript → ℕ → ScriptItem
item_at script k = item_of (nth k script)

-- ---- lines

pub data LineReply : Type 0 where
  -- the answer stands in the history, in the event that closed the statement
  recorded : LineReply
  out_of_memory : LineReply
  no_statement : SyntaxFault → LineReply
  begun : LineReply
  -- the number of the commit
  committed : ℕ → LineReply
  -- the number of the statement that aborted it, or that was the first bad one
  aborted : ℕ → LineReply
  no_transaction : LineReply
  in_transaction : LineReply

-- the number of the statement, and of the transaction or 0 for none
pub record Line : Type 0 where
  pub statement : ℕ
  pub transaction : ℕ
  pub reply : LineReply

-- ---- states

-- a transaction that a word began: its number, the number of the statement that began it, how often it may still be tried
-- again, and its first bad statement
pub record Opened : Type 0 where
  pub t : ℕ
  pub from : ℕ
  pub attempts : ℕ
  pub bad : Option ℕ

-- how the statement of a transaction of its own was closed
pub data Closed : Type 0 where
  by_success : Closed
  by_failure : Closed
  by_giving_up : Closed

pub data SessionPlace : Type 0 where
  -- no transaction lives. After going back to a begin, so many attempts are left in place of those written there
  free : Option ℕ → SessionPlace
  -- a begin found no memory
  lost : SessionPlace
  -- in a transaction that a word began; the statement has a grant, or not
  inside : Opened → Truth → SessionPlace
  -- its statement was refused and it may be tried again, so it aborts
  leaving : Opened → SessionPlace
  -- in a transaction of the data statement's own; the statement has a grant, or not
  own : ℕ → Truth → SessionPlace
  -- the same, whose statement is closed
  ending : ℕ → Closed → SessionPlace

-- the number of the next statement, and where the session is
pub record State : Type 0 where
  pub next : ℕ
  pub place : SessionPlace

abbrev pub first_state : State
first_state = record { next = 1; place = free None }

-- the transaction that lives there
abbrev pub live_in : SessionPlace → Option ℕ
live_in (free attempts) = None
live_in lost = None
live_in (inside opened granted) = Some opened.t
live_in (leaving opened) = Some opened.t
live_in (own t granted) = Some t
live_in (ending t closed) = Some t

-- ---- steps

pub data Step : Type 0 where
  made : Event → Step
  -- a line without an event; is it for want of memory?
  quiet : Truth → Step

-- none where there is no such step; else the reply of its line, if it has a line, and what comes then
abbrev pub After : Type 0
After = Option (Option LineReply × State)

abbrev pub no_step : After
no_step = None

-- without a line
abbrev pub goes_to : ℕ → SessionPlace → After
goes_to next place = Some (None, record { next = next; place = place })

-- with a line, and behind the statement
abbrev pub told : ℕ → LineReply → SessionPlace → After
told k reply place = Some (Some reply, record { next = suc k; place = place })

-- the first bad statement stays
abbrev pub or_first : Option ℕ → ℕ → Option ℕ
or_first None k = Some k
or_first (Some f) k = Some f

abbrev pub with_bad : Opened → ℕ → Opened
with_bad opened k = record { t = opened.t; from = opened.from; attempts = opened.attempts; bad = or_first opened.bad k }

-- the attempts that are left, else those written
abbrev pub attempts_of : Option ℕ → ℕ → ℕ
attempts_of None written = written
attempts_of (Some left) written = left

abbrev pub is_success : Reply → Truth
is_success (values rows) = true
is_success (done n) = true
is_success (faulty row point fault) = false
is_success (misfit row span fault) = false
is_success (unchecked span fault) = false

-- ---- events, by the place

-- a begin, or a data statement's own transaction
abbrev pub at_begun : ℕ → ScriptItem → Option ℕ → ℕ → After
at_begun k (session_word (Begin written)) attempts t =
    told k begun (inside (record { t = t; from = k; attempts = attempts_of attempts written; bad = None }) false)
at_begun k data_statement attempts t = goes_to k (own t false)
at_begun k item attempts t = no_step

abbrev pub in_free : ℕ → ScriptItem → Option ℕ → Event → After
in_free k item attempts (Begun t session statement) = at_begun k item attempts t
in_free k item attempts event = no_step

-- a commit with a bad statement aborts, and tells it; any other commits, or finds no memory and aborts
abbrev pub is_due_commit : (anyway : Truth) → Option ℕ → Truth
is_due_commit true bad = true
is_due_commit false None = true
is_due_commit false (Some f) = false

abbrev pub at_committed : ℕ → ScriptItem → Opened → ℕ → After
at_committed k (session_word (Commit anyway)) opened n = if is_due_commit anyway opened.bad then told k (committed n) (free None) else no_step
at_committed k item opened n = no_step

abbrev pub reply_of_abort : (anyway : Truth) → Option ℕ → LineReply
reply_of_abort true bad = out_of_memory
reply_of_abort false None = out_of_memory
reply_of_abort false (Some f) = aborted f

abbrev pub at_aborted : ℕ → ScriptItem → Opened → After
at_aborted k (session_word (Commit anyway)) opened = told k (reply_of_abort anyway opened.bad) (free None)
at_aborted k (session_word Abort) opened = told k (aborted k) (free None)
at_aborted k the_end opened = told k (aborted k) (free None)
at_aborted k item opened = no_step

-- a data statement in a transaction that a word began
abbrev pub refused_with : ℕ → (attempts : ℕ) → Opened → After
refused_with k zero opened = told k recorded (inside (with_bad opened k) false)
refused_with k (suc attempts) opened = Some (Some recorded, record { next = k; place = leaving (with_bad opened k) })

abbrev pub at_data : ℕ → Opened → Truth → Event → After
at_data k opened granted (Granted t statement phase list) = goes_to k (inside opened true)
at_data k opened granted (Answered t statement answer) =
    told k recorded (inside (if is_success (reply_of_answer answer) then opened else with_bad opened k) false)
at_data k opened granted (Refused t statement phase lock mode holder) = refused_with k opened.attempts opened
at_data k opened true (GaveUp t statement) = told k out_of_memory (inside (with_bad opened k) false)
at_data k opened granted event = no_step

abbrev pub if_data : ScriptItem → After → After
if_data data_statement after = after
if_data item after = no_step

abbrev pub in_inside : ℕ → ScriptItem → Opened → Truth → Event → After
in_inside k item opened granted (Committed t n) = at_committed k item opened n
in_inside k item opened granted (Aborted t) = at_aborted k item opened
in_inside k item opened granted event = if_data item (at_data k opened granted event)

-- back to the begin, with one attempt fewer
abbrev pub in_leaving : Opened → Event → After
in_leaving opened (Aborted t) = goes_to opened.from (free (Some (opened.attempts - 1)))
in_leaving opened event = no_step

abbrev pub in_own : ℕ → ℕ → Truth → Event → After
in_own k t granted (Granted u statement phase list) = goes_to k (own t true)
in_own k t granted (Answered u statement answer) = goes_to k (ending t (if is_success (reply_of_answer answer) then by_success else by_failure))
in_own k t granted (Refused u statement phase lock mode holder) = goes_to k (ending t by_failure)
in_own k t true (GaveUp u statement) = goes_to k (ending t by_giving_up)
in_own k t false (Aborted u) = told k out_of_memory (free None)
in_own k t granted event = no_step

-- the line of a transaction of its own comes with its end
abbrev pub in_ending : ℕ → Closed → Event → After
in_ending k by_success (Committed t n) = told k recorded (free None)
in_ending k by_success (Aborted t) = told k out_of_memory (free None)
in_ending k by_failure (Aborted t) = told k recorded (free None)
in_ending k by_giving_up (Aborted t) = told k out_of_memory (free None)
in_ending k closed event = no_step

abbrev pub after_event : ℕ → ScriptItem → SessionPlace → Event → After
after_event k item (free attempts) event = in_free k item attempts event
after_event k item lost event = no_step
after_event k item (inside opened granted) event = in_inside k item opened granted event
after_event k item (leaving opened) event = in_leaving opened event
after_event k item (own t granted) event = in_own k t granted event
after_event k item (ending t closed) event = in_ending k closed event

-- ---- lines without an event, by the place

-- a text that is no statement is told with its fault, or for want of memory without it
abbrev pub unread_reply : SyntaxFault → Truth → LineReply
unread_reply fault true = out_of_memory
unread_reply fault false = no_statement fault

abbrev pub quiet_free : ℕ → ScriptItem → Truth → After
quiet_free k (unread fault) wanting = told k (unread_reply fault wanting) (free None)
quiet_free k (session_word (Begin written)) true = told k out_of_memory lost
quiet_free k (session_word (Commit anyway)) false = told k no_transaction (free None)
quiet_free k (session_word Abort) false = told k no_transaction (free None)
quiet_free k data_statement true = told k out_of_memory (free None)
quiet_free k item wanting = no_step

-- until the transaction that couldn't begin would have ended
abbrev pub quiet_lost : ℕ → ScriptItem → Truth → After
quiet_lost k (session_word (Commit anyway)) true = told k out_of_memory (free None)
quiet_lost k (session_word Abort) true = told k out_of_memory (free None)
quiet_lost k (session_word (Begin written)) true = told k out_of_memory lost
quiet_lost k (unread fault) true = told k out_of_memory lost
quiet_lost k data_statement true = told k out_of_memory lost
quiet_lost k item wanting = no_step

-- a statement with a grant is given up by an event
abbrev pub quiet_inside : ℕ → ScriptItem → Opened → (granted wanting : Truth) → After
quiet_inside k (unread fault) opened granted wanting = told k (unread_reply fault wanting) (inside (with_bad opened k) false)
quiet_inside k (session_word (Begin written)) opened granted false = told k in_transaction (inside opened false)
quiet_inside k data_statement opened false true = told k out_of_memory (inside (with_bad opened k) false)
quiet_inside k item opened granted wanting = no_step

abbrev pub after_quiet : ℕ → ScriptItem → SessionPlace → Truth → After
after_quiet k item (free attempts) wanting = quiet_free k item wanting
after_quiet k item lost wanting = quiet_lost k item wanting
after_quiet k item (inside opened granted) wanting = quiet_inside k item opened granted wanting
after_quiet k item (leaving opened) wanting = no_step
after_quiet k item (own t granted) wanting = no_step
after_quiet k item (ending t closed) wanting = no_step

-- ---- one step

abbrev pub is_live_in : SessionPlace → ℕ → Truth
is_live_in place t = elim (live_in place) [ None ↦ false | Some u ↦ t == u ]

-- the event is one of this session at this state: it begins there, or it is of the transaction that lives and of the statement
abbrev pub fits : (session : ℕ) → State → Event → Truth
fits session state (Begun t i k) = (i == session) && (k == state.next)
fits session state (Granted t k phase list) = is_live_in state.place t && (k == state.next)
fits session state (Refused t k phase lock mode holder) = is_live_in state.place t && (k == state.next)
fits session state (Answered t k answer) = is_live_in state.place t && (k == state.next)
fits session state (GaveUp t k) = is_live_in state.place t && (k == state.next)
fits session state (Committed t n) = is_live_in state.place t
fits session state (Aborted t) = is_live_in state.place t

abbrev pub step_from : (session : ℕ) → ReadScript → State → Step → After
step_from session script state (made event) = if fits session state event then after_event state.next (item_at script state.next) state.place event else no_step
step_from session script state (quiet wanting) = after_quiet state.next (item_at script state.next) state.place wanting

-- ---- walks

-- the state that a walk has come to, and its lines in order
pub record Walked : Type 0 where
  pub state : State
  pub lines : List Line

abbrev pub or_none : Option ℕ → ℕ
or_none None = 0
or_none (Some t) = t

abbrev pub first_live : Option ℕ → Option ℕ → ℕ
first_live None later = or_none later
first_live (Some t) later = t

-- a line is of the transaction that lives before the step, or behind it where that begins one
abbrev pub line_for : State → Option LineReply × State → List Line
line_for before (None, after) = []
line_for before (Some reply, after) = record { statement = before.next; transaction = first_live (live_in before.place) (live_in after.place); reply = reply } ∷ []

abbrev pub walked_on : Walked → After → Option Walked
walked_on before None = None
walked_on before (Some after) = Some (record { state = after.1; lines = before.lines ++ line_for before.state after })

abbrev pub walk_on : (session : ℕ) → ReadScript → Option Walked → Step → Option Walked
walk_on session script None step = None
walk_on session script (Some before) step = walked_on before (step_from session script before.state step)

-- the walk of some steps, the last one first, if they are one
abbrev pub walk : (session : ℕ) → ReadScript → List Step → Option Walked
walk session script [] = Some (record { state = first_state; lines = [] })
walk session script (step ∷ before) = walk_on session script (walk session script before) step

-- it has come to the script's end, and no transaction of it lives
abbrev pub is_end : ScriptItem → Truth
is_end the_end = true
is_end item = false

abbrev pub is_at_rest : SessionPlace → Truth
is_at_rest (free attempts) = true
is_at_rest lost = true
is_at_rest place = false

abbrev pub is_over : ReadScript → State → Truth
is_over script state = is_end (item_at script state.next) && is_at_rest state.place
