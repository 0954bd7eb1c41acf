-- Scripts and runs that are worked out by hand. A walk asks of a data statement only that it is one, and of a granted list
-- nothing, so one statement stands for all, and lists are left empty.
use Rattle.std.specs.Prelude.{ℕ, true, false, List, [], ◌∷◌, ◌++◌, reverse, Option, Some, None, Result, Ok}
use Rattle.ras_cells.specs.declared.cell.CellFault.TheVariants.{DivideByZero}
use Rattle.ras_domain.specs.declared.lock.LockName.TheVariants.{Collection}
use Rattle.ras_domain.specs.declared.lock.Mode.TheVariants.{Shared}
use Rattle.ras_syntax.specs.declared.answer.Answer.{Answer}
use Rattle.ras_syntax.specs.declared.answer.Answer.TheVariants.{Done, Fault, Value}
use Rattle.ras_syntax.specs.declared.event.Event.{Event}
use Rattle.ras_syntax.specs.declared.event.Event.TheVariants.{Begun, Granted, Refused, Answered, Committed, Aborted}
use Rattle.ras_syntax.specs.declared.faults.SyntaxFault.{SyntaxFault}
use Rattle.ras_syntax.specs.declared.statement.Statement.{Statement}
use Rattle.ras_syntax.specs.declared.statement.StatementForm.TheVariants as forms
use Rattle.ras_syntax.specs.declared.statement.Word.{Word}
use Rattle.spec_sessions.specs.Walk.{Line, LineReply, ReadScript, Step, Walked, is_over, made, walk}

-- ---- statements

abbrev pub by_word : Word → Result Statement SyntaxFault
by_word w = Ok (record { form = forms.Word w; length = 0 })

abbrev pub by_data : Result Statement SyntaxFault
by_data = Ok (record { form = forms.Drop (record { name = []; span = record { from = 0; to = 0 } }); length = 0 })

-- ---- events

abbrev pub granted_in : ℕ → ℕ → ℕ → Event
granted_in t k phase = Granted t k phase []

abbrev pub refused_by : ℕ → ℕ → ℕ → ℕ → Event
refused_by t k phase holder = Refused t k phase (Collection []) Shared holder

abbrev pub selected : Answer
selected = Value []

abbrev pub divided : Answer
divided = Fault 1 (record { items = [] }) DivideByZero

-- the grants of a statement that asks for its collections, domains and tiles
abbrev pub all_granted : ℕ → ℕ → List Step
all_granted t k = made (granted_in t k 1) ∷ made (granted_in t k 2) ∷ made (granted_in t k 4) ∷ []

-- ---- lines

abbrev pub line : ℕ → ℕ → LineReply → Line
line statement transaction reply = record { statement = statement; transaction = transaction; reply = reply }

-- the lines of a walk whose steps stand here in order, where it is over
abbrev pub lines_if_over : ReadScript → Option Walked → Option (List Line)
lines_if_over script None = None
lines_if_over script (Some walked) = elim (is_over script walked.state) [ true ↦ Some walked.lines | false ↦ None ]

abbrev pub lines_walked : ℕ → ReadScript → List Step → Option (List Line)
lines_walked session script steps = lines_if_over script (walk session script (reverse steps))

-- ---- two sessions that meet in one tile

-- `begin; update ..; commit;`
abbrev pub updating_walk : List Step
updating_walk = made (Begun 1 1 1) ∷ all_granted 1 2 ++ made (Answered 1 2 (Done 1)) ∷ made (Committed 1 2) ∷ []

-- `select ..; select ..;`: the first one is refused
abbrev pub selecting_walk : List Step
selecting_walk =
    made (Begun 2 2 1) ∷ made (granted_in 2 1 1) ∷ made (granted_in 2 1 2) ∷ made (refused_by 2 1 4 1) ∷ made (Aborted 2)
    ∷ made (Begun 3 2 2) ∷ all_granted 3 2 ++ made (Answered 3 2 selected) ∷ made (Committed 3 1) ∷ []

-- the update's five first steps, all of the selects, and the update's commit at last
abbrev pub meeting_history : List Event
meeting_history =
    Begun 1 1 1 ∷ granted_in 1 2 1 ∷ granted_in 1 2 2 ∷ granted_in 1 2 4 ∷ Answered 1 2 (Done 1)
    ∷ Begun 2 2 1 ∷ granted_in 2 1 1 ∷ granted_in 2 1 2 ∷ refused_by 2 1 4 1 ∷ Aborted 2
    ∷ Begun 3 2 2 ∷ granted_in 3 2 1 ∷ granted_in 3 2 2 ∷ granted_in 3 2 4 ∷ Answered 3 2 selected ∷ Committed 3 1
    ∷ Committed 1 2 ∷ []
