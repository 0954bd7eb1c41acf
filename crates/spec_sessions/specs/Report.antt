-- The report of an outcome: the lines of each session, and the history, an event a line.
use Rattle.std.specs.Prelude.{ℕ, ℤ, ◌==◌, Bool as Truth, false, ◌&&◌, List, [], ◌∷◌, ◌++◌, length, flat_map, find, Option, Some, None, codes, decimal}
use Rattle.std.specs.Fmt.{signed_decimal}
use Rattle.std.specs.List.{concat, join_by}
use Rattle.ras_cells.specs.declared.cell.Cell.{Cell}
use Rattle.ras_cells.specs.declared.cell.Cell.TheVariants.{Null, Value}
use Rattle.ras_domain.specs.declared.lock.LockName.{LockName}
use Rattle.ras_domain.specs.declared.lock.LockName.TheVariants.{Collection, Domain, Tile}
use Rattle.ras_domain.specs.declared.lock.Mode.{Mode}
use Rattle.ras_domain.specs.declared.lock.Mode.TheVariants.{Shared, Exclusive}
use Rattle.ras_domain.specs.declared.region.Interval.{Interval}
use Rattle.ras_syntax.specs.declared.event.Event.{Event}
use Rattle.ras_syntax.specs.declared.event.Event.TheVariants.{Begun, Granted, Refused, Answered, GaveUp, Committed, Aborted}
use Rattle.ras_syntax.specs.declared.types.Script.{Script}
use Rattle.spec_expressions.specs.Shape.{Box}
use Rattle.spec_grammar.specs.Tokens.{Text}
use Rattle.spec_histories.specs.History.{nth}
use Rattle.spec_statements.specs.Locks.{Lock}
use Rattle.spec_statements.specs.Reply.{Reply, RowReply, all_cells, done, faulty, misfit, one_cell, one_domain, reply_of_answer, unchecked, values}
use Rattle.spec_workloads.specs.Answers.{check_text_of, fault_text_of, point_text_of, shape_text_of, syntax_text}
use Rattle.spec_sessions.specs.Outcomes.{OutcomeValue}
use Rattle.spec_sessions.specs.Walk.{Line, LineReply, aborted, begun, committed, in_transaction, no_statement, no_transaction, out_of_memory, recorded}

-- ---- values

abbrev pub numbers_text_of : List ℤ → Text
numbers_text_of [] = codes "{}"
numbers_text_of (z ∷ []) = signed_decimal z
numbers_text_of (z ∷ y ∷ numbers) = codes "{" ++ join_by signed_decimal (codes ",") (z ∷ y ∷ numbers) ++ codes "}"

abbrev pub cell_text_of : Cell → Text
cell_text_of Null = codes "null"
cell_text_of (Value numbers) = numbers_text_of numbers.items

abbrev pub axis_text_of : Interval → Text
axis_text_of axis = signed_decimal axis.lo ++ codes ":" ++ signed_decimal axis.hi

abbrev pub box_text_of : Box → Text
box_text_of box = codes "[" ++ join_by axis_text_of (codes ",") box ++ codes "]"

abbrev pub row_text_of : RowReply → Text
row_text_of (one_cell cell) = cell_text_of cell
row_text_of (one_domain box) = codes "sdom " ++ box_text_of box
row_text_of (all_cells box cells) = box_text_of box ++ flat_map (λ cell. codes " " ++ cell_text_of cell) cells

-- ---- locks

abbrev pub mode_text_of : Mode → Text
mode_text_of Shared = codes "S"
mode_text_of Exclusive = codes "X"

abbrev pub name_text_of : LockName → Text
name_text_of (Collection name) = codes "collection " ++ name
name_text_of (Domain name id) = concat (codes "domain " ∷ name ∷ codes " " ∷ decimal id ∷ [])
name_text_of (Tile name id place) = concat (codes "tile " ∷ name ∷ codes " " ∷ decimal id ∷ codes " " ∷ point_text_of place.items ∷ [])

abbrev pub lock_text_of : Lock → Text
lock_text_of lock = concat (mode_text_of lock.1 ∷ codes " " ∷ name_text_of lock.0 ∷ [])

-- ---- answers

-- a reply, and behind it a line for each row of a value
abbrev pub reply_text_of : Reply → Text
reply_text_of (values rows) = concat (codes "value " ∷ decimal (length rows) ∷ flat_map (λ row. codes "\nrow " ++ row_text_of row) rows ∷ [])
reply_text_of (done n) = codes "done " ++ decimal n
reply_text_of (faulty row point fault) = fault_text_of row point fault
reply_text_of (misfit row span fault) = shape_text_of row span fault
reply_text_of (unchecked span fault) = check_text_of span fault

-- the name of the session in which a transaction first began
abbrev pub begins : ℕ → Event → Truth
begins t (Begun u session statement) = u == t
begins t event = false

abbrev pub name_or_none : Option Script → Text
name_or_none None = []
name_or_none (Some script) = script.name

abbrev pub session_in : Option Event → ℕ
session_in (Some (Begun t session statement)) = session
session_in found = 0

abbrev pub session_name : List Script → List Event → ℕ → Text
session_name scripts history t = name_or_none (nth (session_in (find (begins t) history)) scripts)

-- the event that answers or refuses a statement of a transaction
abbrev pub answers_statement : ℕ → ℕ → Event → Truth
answers_statement t k (Answered u statement answer) = (u == t) && (statement == k)
answers_statement t k (Refused u statement phase lock mode holder) = (u == t) && (statement == k)
answers_statement t k event = false

abbrev pub event_answer_text : List Script → List Event → Option Event → Text
event_answer_text scripts history (Some (Answered t k answer)) = reply_text_of (reply_of_answer answer)
event_answer_text scripts history (Some (Refused t k phase lock mode holder)) =
    concat (codes "locked " ∷ name_text_of lock ∷ codes " holder " ∷ decimal holder ∷ codes " of " ∷ session_name scripts history holder ∷ [])
event_answer_text scripts history found = []

abbrev pub line_reply_text : List Script → List Event → Line → LineReply → Text
line_reply_text scripts history line recorded = event_answer_text scripts history (find (answers_statement line.transaction line.statement) history)
line_reply_text scripts history line out_of_memory = codes "memory"
line_reply_text scripts history line (no_statement fault) = syntax_text fault
line_reply_text scripts history line begun = codes "begun"
line_reply_text scripts history line (committed n) = codes "committed " ++ decimal n
line_reply_text scripts history line (aborted k) = codes "aborted " ++ decimal k
line_reply_text scripts history line no_transaction = codes "no transaction"
line_reply_text scripts history line in_transaction = codes "in transaction"

abbrev pub line_text : List Script → List Event → Line → Text
line_text scripts history line =
    concat (decimal line.statement ∷ codes " " ∷ decimal line.transaction ∷ codes " " ∷ line_reply_text scripts history line line.reply ∷ codes "\n" ∷ [])

-- ---- events

abbrev pub event_line : Event → Text
event_line (Begun t session k) = concat (codes "begun " ∷ decimal t ∷ codes " session " ∷ decimal session ∷ codes " statement " ∷ decimal k ∷ codes "\n" ∷ [])
event_line (Granted t k phase list) =
    concat (codes "granted " ∷ decimal t ∷ codes " " ∷ decimal k ∷ codes " phase " ∷ decimal phase ∷ codes ": " ∷ join_by lock_text_of (codes ", ") list ∷ codes "\n" ∷ [])
event_line (Refused t k phase lock mode holder) =
    concat (
    codes "refused " ∷ decimal t ∷ codes " " ∷ decimal k ∷ codes " phase " ∷ decimal phase ∷ codes " " ∷ lock_text_of (lock, mode) ∷ codes " holder " ∷ decimal holder
    ∷ codes "\n" ∷ [])
event_line (Answered t k answer) = concat (codes "answered " ∷ decimal t ∷ codes " " ∷ decimal k ∷ codes "\n" ∷ [])
event_line (GaveUp t k) = concat (codes "gave up " ∷ decimal t ∷ codes " " ∷ decimal k ∷ codes "\n" ∷ [])
event_line (Committed t number) = concat (codes "committed " ∷ decimal t ∷ codes " " ∷ decimal number ∷ codes "\n" ∷ [])
event_line (Aborted t) = concat (codes "aborted " ∷ decimal t ∷ codes "\n" ∷ [])

-- ---- the whole report

abbrev pub session_text : List Script → List Event → Script → List Line → Text
session_text scripts history script lines = codes "#session " ++ script.name ++ codes "\n" ++ flat_map (line_text scripts history) lines

-- the sessions in their order, each with its lines
abbrev pub sessions_text_of : List Script → List Event → List Script → List (List Line) → Text
sessions_text_of scripts history [] lines = []
sessions_text_of scripts history (script ∷ later) [] = []
sessions_text_of scripts history (script ∷ later) (lines ∷ more) = session_text scripts history script lines ++ sessions_text_of scripts history later more

abbrev pub report_text : List Script → OutcomeValue → Text
report_text scripts outcome =
    codes "#rasq report 1\n" ++ sessions_text_of scripts outcome.history scripts outcome.lines ++ codes "#history\n" ++ flat_map event_line outcome.history
    ++ codes "#end\n"
