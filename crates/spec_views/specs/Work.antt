-- A transaction's work over every database that the pieces which it took may stand for.
use Rattle.std.specs.Prelude.{◌≡◌, List, flat_map, Option}
use Rattle.std.specs.List.{AllByRecursion}
use Rattle.ras_domain.specs.declared.lock.LockName.{LockName}
use Rattle.ras_syntax.specs.declared.statement.Statement.{Statement}
use Rattle.ras_syntax.specs.declared.types.SetType.{SetType}
use Rattle.spec_expressions.specs.Database.{Database}
use Rattle.spec_histories.specs.History.{Programs, database_after}
use Rattle.spec_statements.specs.Locks.{Lock}
use Rattle.spec_statements.specs.Validity.{IsValidFor}
use Rattle.spec_views.specs.Holdings.{Holding, Holdings, StandsFor, holding_at}

-- what was taken of the committed database under a list of locks
pub record TakenPiece : Type 0 where
  pub holdings : Holdings
  pub list : List Lock

abbrev pub taken_locks : List TakenPiece → List Lock
taken_locks pieces = flat_map (λ piece. piece.list) pieces

-- a database has what each piece holds
abbrev pub AllStandFor : List SetType → List TakenPiece → Database → Type 0
AllStandFor types pieces database = AllByRecursion (λ piece. StandsFor types piece.holdings piece.list database) pieces

-- what is there under a name afterwards, by the name and what was there before
abbrev pub Rewrites : Type 0
Rewrites = LockName → Option Holding → Option Holding

-- the one database becomes the other, under every name
abbrev pub RewritesTo : List SetType → Rewrites → Database → Database → Type 0
RewritesTo types rewrites before next = (name : LockName) → holding_at types name next ≡ rewrites name (holding_at types name before)

-- the pieces that were taken, what the work rewrites, and what it has under the names that were taken
pub record Work : Type 0 where
  pub pieces : List TakenPiece
  pub rewrites : Rewrites
  pub view : Holdings

-- over one database it is the work of these statements: they rewrite it so, under every name, and leave what the view has
pub record IsWorkOver (programs : Programs) (statements : List Statement) (work : Work) (database : Database) : Type 0 where
  pub rewrites : RewritesTo programs.types work.rewrites database (database_after programs statements database)
  pub stands : StandsFor programs.types work.view (taken_locks work.pieces) (database_after programs statements database)

-- and over each valid one that has what all pieces hold
abbrev pub IsWork : Programs → List Statement → Work → Type 0
IsWork programs statements work =
    (database : Database) → IsValidFor programs.types database → AllStandFor programs.types work.pieces database
    → IsWorkOver programs statements work database
