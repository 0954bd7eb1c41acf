-- The way of one statement through its phases: what is known of it before a phase, and what comes of going on.
use Rattle.std.specs.Prelude.{◌≡◌, ◌≢◌, ℕ, suc, ◌<◌, ◌≤◌, false, List, [], Option, Some, None, Ok, Err}
use Rattle.law_work.specs.Writes.{writes_in, writings_of}
use Rattle.ras_course.specs.declared.course.Coming.{Coming}
use Rattle.ras_course.specs.declared.course.Coming.TheVariants as comings
use Rattle.ras_course.specs.declared.course.Course.{Course}
use Rattle.ras_eval.specs.Seen.{too_many_locks}
use Rattle.ras_store.specs.declared.write.Computed.{Computed}
use Rattle.ras_syntax.specs.declared.answer.Answer.{Answer}
use Rattle.ras_syntax.specs.declared.statement.Statement.{Statement}
use Rattle.ras_syntax.specs.declared.types.SetType.{SetType}
use Rattle.ras_syntax.specs.declared.typed.Checked.{Checked}
use Rattle.spec_expressions.specs.Database.{Database}
use Rattle.spec_shown.specs.Shown.{IsPartOf}
use Rattle.spec_statements.specs.Locks.{Lock}
use Rattle.spec_statements.specs.Machine.{checked_over, effect_of, first_list, is_too_long, needs_of, reply_of}
use Rattle.spec_statements.specs.ReachLaw.{IsSetting}
use Rattle.spec_statements.specs.Reply.{reply_of_answer}
use Rattle.spec_statements.specs.Statement.{statement_tree_of}
use Rattle.spec_views.specs.Holdings.{Holdings, IsSeenBy, passing_by}
use Rattle.spec_views.specs.Writings.{written_by}

-- ---- what is known

-- the check is the statement's over a database; none is needed before the first phase was seen
abbrev pub HasCheck : List SetType → Statement → ℕ → Option Checked → Database → Type 0
HasCheck types statement next None database = next ≤ 2
HasCheck types statement next (Some checked) database = (2 ≤ next) × (checked_over types statement database ≡ Ok checked)

-- the rows are those that pass; none are needed before the first three phases were seen. No list of the earlier phases is too
-- long: it would have been the answer
abbrev pub HasRows : List SetType → Statement → ℕ → Option Checked → Option (List (ℕ × List ℕ)) → Database → Type 0
HasRows types statement next None None database = next ≤ 4
HasRows types statement next None (Some rows) database = ⊥
HasRows types statement next (Some checked) None database =
    (next ≤ 4) × (next ≡ 4 → passing_by (statement_tree_of checked) database ≢ Err (too_many_locks (statement_tree_of checked)))
HasRows types statement next (Some checked) (Some rows) database =
    (4 ≤ next) × (passing_by (statement_tree_of checked) database ≡ Ok rows)
    × (next ≡ 5 → reply_of types statement database ≢ too_many_locks (statement_tree_of checked))

-- what a course keeps is so over a database
pub record IsKnownTo (types : List SetType) (statement : Statement) (next : ℕ) (checked : Option Checked) (rows : Option (List (ℕ × List ℕ))) (database : Database) : Type 0 where
  pub some : 1 ≤ next
  pub within : next ≤ 5
  pub short : 2 ≤ next → is_too_long (first_list statement) ≡ false
  pub has_check : HasCheck types statement next checked database
  pub has_rows : HasRows types statement next checked rows database

abbrev pub IsKnown : List SetType → Statement → Course → Database → Type 0
IsKnown types statement course database = IsKnownTo types statement course.next course.checked course.rows database

-- one database over which the course has come this far: the view stands for it up to the course's phase, and holds nothing
-- else, and what the course keeps is so over it
pub record IsComeTo (types : List SetType) (statement : Statement) (holdings : Holdings) (course : Course) (database : Database) : Type 0 where
  pub setting : IsSetting types statement database
  pub seen : IsSeenBy types holdings statement course.next database
  pub part : IsPartOf types holdings database
  pub known : IsKnown types statement course database

-- ---- what comes of going on

-- the statement asks for nothing in the phases from one on and below another
abbrev pub NeedsNothing : List SetType → Statement → (from to : ℕ) → Database → Type 0
NeedsNothing types statement from to database = (q : ℕ) → from ≤ q → q < to → needs_of types statement q database ≡ []

-- the list of a phase, behind phases that ask for nothing; once it is held, the course has come to the next phase
pub record IsAskedFor (types : List SetType) (statement : Statement) (database : Database) (old new : Course) (phase : ℕ) (list : List Lock) : Type 0 where
  pub behind : old.next ≤ phase
  pub within : phase ≤ 4
  pub passed : NeedsNothing types statement old.next phase database
  pub list_is : list ≡ needs_of types statement phase database
  pub some : list ≢ []
  pub next : new.next ≡ suc phase
  pub known : IsKnown types statement new database

-- the statement's answer, which asks for nothing more and changes nothing
pub record IsAnswerOf (types : List SetType) (statement : Statement) (database : Database) (old : Course) (answer : Answer) : Type 0 where
  pub passed : NeedsNothing types statement old.next 5 database
  pub reply : reply_of_answer answer ≡ reply_of types statement database
  pub effect : effect_of types statement database ≡ database

-- what the statement writes, by its check, which the course keeps
pub record IsWritten (types : List SetType) (statement : Statement) (holdings : Holdings) (database : Database) (old new : Course) (computed : Computed) : Type 0 where
  pub passed : NeedsNothing types statement old.next 5 database
  pub seen : IsSeenBy types holdings statement 5 database
  pub checked : Checked
  pub kept : new.checked ≡ Some checked
  pub short : is_too_long (first_list statement) ≡ false
  pub check : checked_over types statement database ≡ Ok checked
  pub written : written_by (statement_tree_of checked) database ≡ Ok (writings_of (statement_tree_of checked).request (writes_in computed))

-- over a database for which the view stands; of want of memory nothing is said
abbrev pub ComesOf : List SetType → Statement → Holdings → Database → Course → Course → Coming → Type 0
ComesOf types statement holdings database old new (comings.Asks phase list) = IsAskedFor types statement database old new phase list
ComesOf types statement holdings database old new (comings.Answers answer) = IsAnswerOf types statement database old answer
ComesOf types statement holdings database old new (comings.Writes computed) = IsWritten types statement holdings database old new computed
ComesOf types statement holdings database old new comings.Memory = Unit {0}
