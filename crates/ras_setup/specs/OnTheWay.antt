-- How far a statement has come, over the database that a store keeps.
use Rattle.std.specs.Prelude.{◌≡◌, ◌⊎◌, List, [], Option, None}
use Rattle.ras_course.specs.Courses.{IsComeTo}
use Rattle.ras_course.specs.declared.course.Course.{Course}
use Rattle.ras_domain.specs.declared.lock.LockName.{LockName}
use Rattle.ras_store.specs.Databases.{Keeps, holdings_of}
use Rattle.ras_store.specs.Kept.{Kept}
use Rattle.ras_syntax.specs.declared.statement.Statement.{Statement}
use Rattle.ras_syntax.specs.declared.types.SetType.{SetType}
use Rattle.ras_work.specs.Works.{work_changes, work_kept}
use Rattle.ras_work.specs.declared.work.Work.{Work}
use Rattle.spec_expressions.specs.Database.{Database}
use Rattle.spec_statements.specs.ReachLaw.{IsSetting}

-- the work holds a part of what is kept and changed nothing, and over each database that is kept the course has come as far
-- as that part goes
pub record IsOnTheWay (types : List SetType) (statement : Statement) (kept : LockName → Option Kept) (course : Course) (work : Work) : Type 0 where
  pub fresh : work_changes work ≡ []
  pub part : (name : LockName) → (work_kept work name ≡ None) ⊎ (work_kept work name ≡ kept name)
  pub come : (database : Database) → IsSetting types statement database → Keeps types kept database
      → IsComeTo types statement (holdings_of (work_kept work)) course database
