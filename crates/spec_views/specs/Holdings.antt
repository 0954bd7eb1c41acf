-- What is held of a database under the names of locks, and for which databases it stands.
use Rattle.std.specs.Prelude.{◌≡◌, ℕ, zero, suc, ◌≤◌, ℤ, List, [], ◌∷◌, ◌++◌, map, Option, Some, None, Result, Ok}
use Rattle.ras_domain.specs.declared.lock.LockName.{LockName}
use Rattle.ras_domain.specs.declared.lock.LockName.TheVariants.{Collection}
use Rattle.ras_syntax.specs.declared.limits.TheConstants.{MAX_IDENTIFIER}
use Rattle.ras_syntax.specs.declared.statement.Statement.{Statement}
use Rattle.ras_syntax.specs.declared.types.SetType.{SetType}
use Rattle.spec_expressions.specs.Database.{Database}
use Rattle.spec_expressions.specs.Shape.{Box}
use Rattle.spec_statements.specs.Agree.{Seen, collection_seen, domain_seen, tile_seen, look_at}
use Rattle.spec_statements.specs.Effects.{row_identifiers}
use Rattle.spec_statements.specs.Locks.{Lock}
use Rattle.spec_statements.specs.Machine.{needs_of}
use Rattle.spec_statements.specs.Phases.{until_passing}
use Rattle.spec_statements.specs.ReachLaw.{Names}
use Rattle.spec_statements.specs.Reply.{Reply}
use Rattle.spec_statements.specs.Statement.{StatementTree}
use Rattle.spec_statements.specs.Validity.{IsValidFor}
use Rattle.ras_cells.specs.Outcomes.{◌>>=◌}

-- what is held under the name of a lock: a collection's set type, next identifier and identifiers; an array's domain; the
-- points of a tile with their stored numbers. A tile doesn't tell the set type of its collection
pub data Holding : Type 0 where
  collection_held : ℕ → ℕ → List ℕ → Holding
  domain_held : Box → Holding
  tile_held : List (List ℤ × List ℤ) → Holding

-- of what a lock shows; nothing is held of a tile without points
abbrev pub holding_of : Seen → Option Holding
holding_of (collection_seen set_type next identifiers) = Some (collection_held set_type next identifiers)
holding_of (domain_seen domain) = Some (domain_held domain)
holding_of (tile_seen set_type []) = None
holding_of (tile_seen set_type (point ∷ points)) = Some (tile_held (point ∷ points))

abbrev pub holding_in : Option Seen → Option Holding
holding_in None = None
holding_in (Some seen) = holding_of seen

-- what a database has under a name, none where it has nothing there
abbrev pub holding_at : List SetType → LockName → Database → Option Holding
holding_at types name database = holding_in (look_at types name database)

-- what is held under each name, none where nothing is there or nothing is held. A list of locks says which of the two
abbrev pub Holdings : Type 0
Holdings = LockName → Option Holding

-- under each name of the list the database has what is held
abbrev pub StandsFor : List SetType → Holdings → List Lock → Database → Type 0
StandsFor types holdings list database = (name : LockName) → Names list name → holdings name ≡ holding_at types name database

-- no collection that is held gives out an identifier beyond the greatest one next
abbrev pub HasSmallNexts : Holdings → Type 0
HasSmallNexts holdings =
    (name : List ℕ) (set_type next : ℕ) (identifiers : List ℕ) → holdings (Collection name) ≡ Some (collection_held set_type next identifiers)
    → next ≤ MAX_IDENTIFIER

-- ---- what a statement has seen before a phase

-- the lists of the phases before one, as the statement needs them over a database
abbrev pub lists_before : List SetType → Statement → ℕ → Database → List Lock
lists_before types statement zero database = []
lists_before types statement (suc phase) database = lists_before types statement phase database ++ needs_of types statement phase database

-- the database is one that holdings may stand for when a statement comes to a phase: they have what the lists of the
-- earlier phases name, as the statement needs these lists over this very database
pub record IsSeenBy (types : List SetType) (holdings : Holdings) (statement : Statement) (phase : ℕ) (database : Database) : Type 0 where
  pub valid : IsValidFor types database
  pub stands : StandsFor types holdings (lists_before types statement phase database) database

-- the numbers of the rows that pass, each with the identifiers of its arrays
abbrev pub passing_by : StatementTree → Database → Result (List (ℕ × List ℕ)) Reply
passing_by statement database = do
  rows ← until_passing statement database
  Ok (map (λ row. (row.0, row_identifiers row.1)) rows)
