-- Outcomes whose numbers are of 64 bits, as those of a run are.
use Rattle.std.specs.Prelude.{ℕ, ◌≤◌, ℤ, length, All}
use Rattle.ras_cells.specs.declared.atom.Atom.TheVariants.{Wide}
use Rattle.ras_cells.specs.declared.cell.Cell.{Cell}
use Rattle.ras_cells.specs.declared.cell.Cell.TheVariants.{Null, Value}
use Rattle.ras_cells.specs.Atoms.{IsInRange}
use Rattle.ras_domain.specs.declared.lock.LockName.{LockName}
use Rattle.ras_domain.specs.declared.lock.LockName.TheVariants.{Collection, Domain, Tile}
use Rattle.ras_syntax.specs.declared.event.Event.{Event}
use Rattle.ras_syntax.specs.declared.event.Event.TheVariants.{Begun, Granted, Refused, Answered, GaveUp, Committed, Aborted}
use Rattle.ras_syntax.specs.declared.faults.SyntaxFault.{SyntaxFault}
use Rattle.ras_syntax.specs.declared.faults.SyntaxFault.TheVariants.{Unexpected, NumberTooWide, TooDeep, UnknownName, FloatRefused}
use Rattle.ras_syntax.specs.declared.limits.TheConstants.{MAX_IDENTIFIER}
use Rattle.ras_syntax.specs.declared.span.Span.{Span}
use Rattle.spec_expressions.specs.Shape.{Box}
use Rattle.spec_statements.specs.Reply.{Reply, RowReply, all_cells, done, faulty, misfit, one_cell, one_domain, reply_of_answer, unchecked, values}
use Rattle.spec_sessions.specs.Outcomes.{OutcomeValue}
use Rattle.spec_sessions.specs.Printable.{all_lines}
use Rattle.spec_sessions.specs.Walk.{LineReply, aborted, committed, no_statement}

abbrev pub IsReportNumber : ℕ → Type 0
IsReportNumber n = n ≤ MAX_IDENTIFIER

abbrev pub IsReportInt : ℤ → Type 0
IsReportInt z = IsInRange Wide z

abbrev pub HasReportNumbers : LockName → Type 0
HasReportNumbers (Collection name) = Unit {0}
HasReportNumbers (Domain name id) = IsReportNumber id
HasReportNumbers (Tile name id place) = IsReportNumber id × All IsReportInt place.items

abbrev pub IsReportCell : Cell → Type 0
IsReportCell Null = Unit {0}
IsReportCell (Value numbers) = All IsReportInt numbers.items

abbrev pub IsReportBox : Box → Type 0
IsReportBox box = All (λ axis. IsReportInt axis.lo × IsReportInt axis.hi) box

abbrev pub IsReportRow : RowReply → Type 0
IsReportRow (one_cell cell) = IsReportCell cell
IsReportRow (one_domain box) = IsReportBox box
IsReportRow (all_cells box cells) = IsReportBox box × All IsReportCell cells

abbrev pub IsReportSpan : Span → Type 0
IsReportSpan span = IsReportNumber span.from × IsReportNumber span.to

abbrev pub IsReportReply : Reply → Type 0
IsReportReply (values rows) = IsReportNumber (length rows) × All IsReportRow rows
IsReportReply (done n) = IsReportNumber n
IsReportReply (faulty row point fault) = IsReportNumber row × All IsReportInt point
IsReportReply (misfit row span fault) = IsReportNumber row × IsReportSpan span
IsReportReply (unchecked span fault) = IsReportSpan span

abbrev pub IsReportEvent : Event → Type 0
IsReportEvent (Begun t session k) = IsReportNumber t × IsReportNumber session × IsReportNumber k
IsReportEvent (Granted t k p list) = IsReportNumber t × IsReportNumber k × IsReportNumber p × All (λ lock. HasReportNumbers lock.0) list
IsReportEvent (Refused t k p lock mode holder) =
    IsReportNumber t × IsReportNumber k × IsReportNumber p × HasReportNumbers lock × IsReportNumber holder
IsReportEvent (Answered t k answer) = IsReportNumber t × IsReportNumber k × IsReportReply (reply_of_answer answer)
IsReportEvent (GaveUp t k) = IsReportNumber t × IsReportNumber k
IsReportEvent (Committed t n) = IsReportNumber t × IsReportNumber n
IsReportEvent (Aborted t) = IsReportNumber t

abbrev pub place_of_fault : SyntaxFault → ℕ
place_of_fault (Unexpected place) = place
place_of_fault (NumberTooWide place) = place
place_of_fault (TooDeep place) = place
place_of_fault (UnknownName place) = place
place_of_fault (FloatRefused place) = place

abbrev pub IsReportLineReply : LineReply → Type 0
IsReportLineReply (no_statement fault) = IsReportNumber (place_of_fault fault)
IsReportLineReply (committed n) = IsReportNumber n
IsReportLineReply (aborted k) = IsReportNumber k
IsReportLineReply reply = Unit {0}

pub record HasNumbersOfReports (outcome : OutcomeValue) : Type 0 where
  pub lines : All (λ line. IsReportNumber line.statement × IsReportNumber line.transaction × IsReportLineReply line.reply) (all_lines outcome)
  pub events : All IsReportEvent outcome.history
