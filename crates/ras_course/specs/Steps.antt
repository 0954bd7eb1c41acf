-- One step on a statement's way: it comes to something, or goes on with nothing asked for.
use Rattle.std.specs.Prelude.{◌≡◌, ◌≢◌, ℕ, ◌≤◌, List, [], Result, Ok, Err}
use Rattle.ras_catalog.specs.declared.fault.CheckError.{CheckError}
use Rattle.ras_catalog.specs.declared.fault.CheckError.TheVariants as checks
use Rattle.ras_course.specs.Courses.{ComesOf, IsComeTo, NeedsNothing}
use Rattle.ras_course.specs.declared.course.Coming.{Coming}
use Rattle.ras_course.specs.declared.course.Coming.TheVariants as comings
use Rattle.ras_course.specs.declared.course.Course.{Course}
use Rattle.ras_reach.specs.declared.first.NeedsFault.{NeedsFault}
use Rattle.ras_reach.specs.declared.first.NeedsFault.TheVariants as faults
use Rattle.ras_rows.specs.declared.stop.Stop.{Stop}
use Rattle.ras_rows.specs.declared.stop.Stop.TheVariants as stops
use Rattle.ras_syntax.specs.declared.answer.Answer.TheVariants.{Check}
use Rattle.ras_syntax.specs.declared.statement.Statement.{Statement}
use Rattle.ras_syntax.specs.declared.types.SetType.{SetType}
use Rattle.spec_expressions.specs.Database.{Database}
use Rattle.spec_statements.specs.Locks.{Lock}
use Rattle.spec_views.specs.Holdings.{Holdings, IsSeenBy}

-- ---- what an error of a call comes to

abbrev pub coming_of_fault : NeedsFault → Coming
coming_of_fault (faults.Answer answer) = comings.Answers answer
coming_of_fault faults.Memory = comings.Memory

abbrev pub coming_of_stop : Stop → Coming
coming_of_stop (stops.Answer answer) = comings.Answers answer
coming_of_stop stops.Memory = comings.Memory

abbrev pub coming_of_check : CheckError → Coming
coming_of_check (checks.Fault span fault) = comings.Answers (Check span fault)
coming_of_check checks.Memory = comings.Memory

-- a list that isn't empty is handed out
abbrev pub IsHandedOut : ℕ → List Lock → Result (Unit {0}) Coming → Type 0
IsHandedOut phase list (Ok passed) = list ≡ []
IsHandedOut phase list (Err coming) = (coming ≡ comings.Asks phase list) × (list ≢ [])

-- ---- steps

-- the course has come on to a phase at least, and nothing was asked for on the way
pub record IsPast (to : ℕ) (types : List SetType) (statement : Statement) (holdings : Holdings) (one other : Database) (old new : Course) : Type 0 where
  pub on : old.next ≤ new.next
  pub reached : to ≤ new.next
  pub passed : NeedsNothing types statement old.next new.next other
  pub come : IsComeTo types statement holdings new one
  pub seen : IsSeenBy types holdings statement new.next other

abbrev pub GoesOver : ℕ → List SetType → Statement → Holdings → Database → Database → Course → Course → Result (Unit {0}) Coming → Type 0
GoesOver to types statement holdings one other old new (Ok passed) = IsPast to types statement holdings one other old new
GoesOver to types statement holdings one other old new (Err coming) = ComesOf types statement holdings other old new coming

-- from one phase on, over each database that is seen
pub record IsStep (from to : ℕ) (types : List SetType) (statement : Statement) (holdings : Holdings) (old new : Course) (result : Result (Unit {0}) Coming) : Type 0 where
  pub goes : (one other : Database) → IsComeTo types statement holdings old one → IsSeenBy types holdings statement old.next other → from ≤ old.next
      → GoesOver to types statement holdings one other old new result

-- what a course that has come past all phases comes to
pub record IsFinish (types : List SetType) (statement : Statement) (holdings : Holdings) (course : Course) (coming : Coming) : Type 0 where
  pub finishes : (one other : Database) → IsComeTo types statement holdings course one → IsSeenBy types holdings statement course.next other → 5 ≤ course.next
      → ComesOf types statement holdings other course course coming
