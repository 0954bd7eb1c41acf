-- Which outcomes have a report, what a report doesn't tell, and which outcomes are good.
use Rattle.std.specs.Prelude.{◌≡◌, ◌≢◌, ℕ, ◌==◌, ◌≤◌, Bool as Truth, true, false, ◌&&◌, if◌then◌else◌, List, [], ◌∷◌, length, map, filter, flat_map, reverse, All, IsTrue, find, Some, None}
use Rattle.std.specs.List.{list_any}
use Rattle.ras_cells.specs.declared.cell.Cell.{Cell}
use Rattle.ras_cells.specs.declared.cell.Cell.TheVariants.{Null, Value}
use Rattle.ras_domain.specs.declared.lock.LockName.{LockName}
use Rattle.ras_domain.specs.declared.lock.LockName.TheVariants.{Collection, Domain, Tile}
use Rattle.ras_syntax.specs.declared.answer.Answer.{Answer}
use Rattle.ras_syntax.specs.declared.answer.Answer.TheVariants as answers
use Rattle.ras_syntax.specs.declared.event.Event.{Event}
use Rattle.ras_syntax.specs.declared.event.Event.TheVariants.{Granted, Refused, Answered, GaveUp}
use Rattle.ras_syntax.specs.declared.types.Script.{Script}
use Rattle.spec_grammar.specs.Tokens.{Text}
use Rattle.spec_histories.specs.History.{History, Programs, events_of, own_database, program_reply, statement_numbered}
use Rattle.spec_histories.specs.Legal.{IsLegal}
use Rattle.spec_histories.specs.Serializable.{IsSerializable}
use Rattle.spec_statements.specs.Reply.{Reply, RowReply, all_cells, one_cell, one_domain, reply_of_answer, values}
use Rattle.spec_workloads.specs.Outline.{is_name}
use Rattle.spec_sessions.specs.Outcomes.{IsMade, OutcomeValue}
use Rattle.spec_sessions.specs.Report.{answers_statement, begins, session_in}
use Rattle.spec_sessions.specs.Walk.{Line, LineReply, ReadScript, out_of_memory, recorded}

-- ---- parts that have a text

abbrev pub HasAnyNumber : Cell → Type 0
HasAnyNumber Null = Unit {0}
HasAnyNumber (Value numbers) = numbers.items ≢ []

abbrev pub RowHasText : RowReply → Type 0
RowHasText (one_cell cell) = HasAnyNumber cell
RowHasText (one_domain box) = Unit {0}
RowHasText (all_cells box cells) = All HasAnyNumber cells

abbrev pub ReplyHasText : Reply → Type 0
ReplyHasText (values rows) = All RowHasText rows
ReplyHasText reply = Unit {0}

abbrev pub collection_name : LockName → Text
collection_name (Collection name) = name
collection_name (Domain name id) = name
collection_name (Tile name id place) = name

abbrev pub LockHasText : LockName → Type 0
LockHasText lock = IsTrue (is_name (collection_name lock))

abbrev pub EventHasText : Event → Type 0
EventHasText (Granted t k phase list) = (list ≢ []) × All (λ lock. LockHasText lock.0) list
EventHasText (Refused t k phase lock mode holder) = LockHasText lock
EventHasText (Answered t k answer) = ReplyHasText (reply_of_answer answer)
EventHasText event = Unit {0}

-- ---- lines and events fit

abbrev pub is_recorded : LineReply → Truth
is_recorded recorded = true
is_recorded reply = false

abbrev pub is_out_of_memory : LineReply → Truth
is_out_of_memory out_of_memory = true
is_out_of_memory reply = false

abbrev pub is_of : ℕ → ℕ → Line → Truth
is_of t k line = (line.transaction == t) && (line.statement == k)

abbrev pub all_lines : OutcomeValue → List Line
all_lines outcome = flat_map (λ lines. lines) outcome.lines

-- how many events answer or refuse a statement of a transaction, and how many lines there are on it
abbrev pub events_on : OutcomeValue → ℕ → ℕ → List Event
events_on outcome t k = filter (answers_statement t k) outcome.history

abbrev pub lines_on : OutcomeValue → ℕ → ℕ → List Line
lines_on outcome t k = filter (is_of t k) (all_lines outcome)

-- a refusal is told by its line; an answer too, or the line tells that the commit found no memory
abbrev pub TellsOf : Event → Line → Type 0
TellsOf (Answered t k answer) line = IsTrue (if is_recorded line.reply then true else is_out_of_memory line.reply)
TellsOf event line = line.reply ≡ recorded

-- the event and the line of a statement, if there is an event
abbrev pub ArePaired : List Event → List Line → Type 0
ArePaired [] lines = All (λ line. line.reply ≢ recorded) lines
ArePaired (event ∷ []) (line ∷ []) = TellsOf event line
ArePaired events lines = ⊥

abbrev pub HolderHasSession : ℕ → List Event → Event → Type 0
HolderHasSession sessions history (Refused t k phase lock mode holder) =
    (1 ≤ session_in (find (begins holder) history)) × (session_in (find (begins holder) history) ≤ sessions)
HolderHasSession sessions history event = Unit {0}

-- each part has a text, and each statement that was answered or refused has one event and one line
pub record IsPrintable (scripts : List Script) (outcome : OutcomeValue) : Type 0 where
  pub texts : All EventHasText outcome.history
  pub sessions : length outcome.lines ≡ length scripts
  pub paired : (t k : ℕ) → ArePaired (events_on outcome t k) (lines_on outcome t k)
  pub holders : All (HolderHasSession (length scripts) outcome.history) outcome.history

-- ---- what a report doesn't tell

-- an answer whose line tells of want of memory is not printed; done 0 stands for it
abbrev pub is_untold : List Line → ℕ → ℕ → Truth
is_untold lines t k = list_any (λ line. is_of t k line && is_out_of_memory line.reply) lines

abbrev pub blank_event : List Line → Event → Event
blank_event lines (Answered t k answer) = Answered t k (if is_untold lines t k then answers.Done 0 else answer)
blank_event lines event = event

abbrev pub blanked : OutcomeValue → OutcomeValue
blanked outcome = record { lines = outcome.lines; history = map (blank_event (all_lines outcome)) outcome.history }

-- ---- filled

-- the answer of a statement of a transaction is the machine's over its own database, if its text is one
abbrev pub IsMachineAnswer : Programs → History → ℕ → ℕ → Answer → Type 0
IsMachineAnswer programs past t k answer =
    elim (statement_numbered programs (events_of t past) k) [
      | None ↦ Unit {0}
      | Some statement ↦ reply_of_answer answer ≡ program_reply programs statement (own_database programs past t)
    ]

abbrev pub IsFilledAnswer : Programs → History → ℕ → ℕ → (untold : Truth) → (told filled : Answer) → Type 0
IsFilledAnswer programs past t k true told filled = IsMachineAnswer programs past t k filled
IsFilledAnswer programs past t k false told filled = told ≡ filled

-- the events are the same, but an answer that wasn't told is the machine's. The newest event comes first
abbrev pub AreFilled : Programs → List Line → (told filled : History) → Type 0
AreFilled programs lines [] [] = Unit {0}
AreFilled programs lines (Answered t k answer ∷ told) (Answered u j other ∷ filled) =
    (t ≡ u) × (k ≡ j) × IsFilledAnswer programs filled t k (is_untold lines t k) answer other × AreFilled programs lines told filled
AreFilled programs lines (event ∷ told) (other ∷ filled) = (event ≡ other) × AreFilled programs lines told filled
AreFilled programs lines told filled = ⊥

pub record IsFilled (programs : Programs) (told filled : OutcomeValue) : Type 0 where
  pub lines : told.lines ≡ filled.lines
  pub history : AreFilled programs (all_lines told) (reverse told.history) (reverse filled.history)

-- ---- good

-- with the answers that aren't told filled in, the history is legal and serializable, and the outcome is made by walks
pub record IsGood (programs : Programs) (scripts : List ReadScript) (outcome : OutcomeValue) : Type 0 where
  pub filled : OutcomeValue
  pub is_filled : IsFilled programs outcome filled
  pub legal : IsLegal programs (reverse filled.history)
  pub serializable : IsSerializable programs (reverse filled.history)
  pub made : IsMade scripts filled

-- no line tells of want of memory, and no statement was given up
abbrev pub is_given_up : Event → Truth
is_given_up (GaveUp t k) = true
is_given_up event = false

pub record IsUnbroken (outcome : OutcomeValue) : Type 0 where
  pub lines : All (λ line. line.reply ≢ out_of_memory) (all_lines outcome)
  pub events : All (λ event. is_given_up event ≡ false) outcome.history
