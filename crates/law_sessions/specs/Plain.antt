-- Outcomes apart from how the lists of their answers lie in memory.
use Rattle.std.specs.Prelude.{map}
use Rattle.ras_syntax.specs.declared.answer.Answer.{Answer}
use Rattle.ras_syntax.specs.declared.answer.Answer.TheVariants.{Value, Done, Fault, Shape, Check}
use Rattle.ras_syntax.specs.declared.answer.RowValue.{RowValue}
use Rattle.ras_syntax.specs.declared.answer.RowValue.TheVariants.{Scalar, Domain, Array}
use Rattle.ras_syntax.specs.declared.event.Event.{Event}
use Rattle.ras_syntax.specs.declared.event.Event.TheVariants.{Answered}
use Rattle.spec_sessions.specs.Outcomes.{OutcomeValue}

-- a list of cells without room for more
abbrev pub plain_row : RowValue → RowValue
plain_row (Scalar cell) = Scalar cell
plain_row (Domain axes) = Domain axes
plain_row (Array axes cells) = Array axes (record { width = 0; cells = cells.cells; room = 0 })

abbrev pub plain_answer : Answer → Answer
plain_answer (Value rows) = Value (map plain_row rows)
plain_answer (Done n) = Done n
plain_answer (Fault row point fault) = Fault row point fault
plain_answer (Shape row span fault) = Shape row span fault
plain_answer (Check span fault) = Check span fault

abbrev pub plain_event : Event → Event
plain_event (Answered t k answer) = Answered t k (plain_answer answer)
plain_event event = event

-- the same lines, and the same events but for the room of their answers
abbrev pub plain_outcome : OutcomeValue → OutcomeValue
plain_outcome outcome = record { lines = outcome.lines; history = map plain_event outcome.history }
