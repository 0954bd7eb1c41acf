-- The reach law: what a statement asks for covers what it reads, and what it writes. These are statements; the laws that
-- cite them say which are proved.
use Rattle.std.specs.Prelude.{◌≡◌, ℕ, ◌<◌, ◌≤◌, ℤ, List, Contains, IsTrue}
use Rattle.arrayvec.specs.ArrayVec.{ArrayVec}
use Rattle.ras_domain.specs.declared.lock.LockName.{LockName}
use Rattle.ras_domain.specs.declared.lock.LockName.TheVariants.{Collection, Domain, Tile}
use Rattle.ras_domain.specs.declared.lock.Mode.{Mode}
use Rattle.ras_domain.specs.declared.lock.Mode.TheVariants.{Exclusive}
use Rattle.ras_syntax.specs.Literals.{statement_numbers_fit}
use Rattle.ras_syntax.specs.declared.statement.Statement.{Statement}
use Rattle.ras_syntax.specs.declared.types.SetType.{SetType}
use Rattle.spec_statements.specs.Agree.{Agrees}
use Rattle.spec_expressions.specs.Database.{Database}
use Rattle.spec_expressions.specs.SetTypes.{AreTypes}
use Rattle.spec_statements.specs.Locks.{Lock}
use Rattle.spec_statements.specs.Machine.{effect_of, needs_of, reply_of}
use Rattle.spec_statements.specs.Validity.{IsValidFor, HasSmallNext}

-- the list has this name, in whatever mode
abbrev pub Names : List Lock → LockName → Type 0
Names list name = (mode : Mode) × Contains list (name, mode)

-- each name of the first list is one of the second
abbrev pub AreNamedIn : List Lock → List Lock → Type 0
AreNamedIn small large = (name : LockName) → Names small name → Names large name

-- what the laws speak of: types that may be declared, a statement whose numbers are of their atoms, as those of a text
-- are, and a valid database; the identifiers of the collections in the statement's first list are numbers of 64 bits
pub record IsSetting (types : List SetType) (statement : Statement) (database : Database) : Type 0 where
  pub types_fit : AreTypes types
  pub numbers_fit : IsTrue (statement_numbers_fit statement.form)
  pub valid : IsValidFor types database
  pub small_identifiers : (name : List ℕ) → Names (needs_of types statement 1 database) (Collection name) → HasSmallNext database name

-- where two databases agree on the lists of a statement's earlier phases, they have the same list of the next phase
abbrev pub LawOfNeeds : Type 0
LawOfNeeds =
    (types : List SetType) (statement : Statement) (one other : Database) (list : List Lock) (phase : ℕ)
    → IsSetting types statement one → IsValidFor types other → Agrees types list one other
    → ((earlier : ℕ) → earlier < phase → AreNamedIn (needs_of types statement earlier one) list)
    → needs_of types statement phase one ≡ needs_of types statement phase other

-- where they agree on the lists of all four phases, the statement has the same answer over both, and leaves databases that
-- agree on them
abbrev pub LawOfAnswers : Type 0
LawOfAnswers =
    (types : List SetType) (statement : Statement) (one other : Database) (list : List Lock)
    → IsSetting types statement one → IsValidFor types other → Agrees types list one other
    → ((phase : ℕ) → phase ≤ 4 → AreNamedIn (needs_of types statement phase one) list)
    → (reply_of types statement one ≡ reply_of types statement other)
    × Agrees types list (effect_of types statement one) (effect_of types statement other)

-- a list has with each name of a tile that of the array's domain, and with each of a domain that of the collection
pub record HasParents (list : List Lock) : Type 0 where
  pub domains : (name : List ℕ) (id : ℕ) → Names list (Domain name id) → Names list (Collection name)
  pub tiles : (name : List ℕ) (id : ℕ) (place : ArrayVec ℤ) → Names list (Tile name id place) → Names list (Domain name id)

-- a statement leaves as it is what it has no exclusive lock on in any phase: so it leaves what others share, for their locks
-- would conflict with an exclusive one
abbrev pub LawOfOthers : Type 0
LawOfOthers =
    (types : List SetType) (statement : Statement) (database : Database) (list : List Lock)
    → AreTypes types → IsValidFor types database → HasParents list
    → ((phase : ℕ) (name : LockName) → Names list name → Contains (needs_of types statement phase database) (name, Exclusive) → ⊥)
    → Agrees types list (effect_of types statement database) database

-- where a phase names a tile, it or an earlier one names the domain, and where it names a domain, the collection
abbrev pub LawOfParents : Type 0
LawOfParents =
    (types : List SetType) (statement : Statement) (database : Database) (phase : ℕ)
    → ((name : List ℕ) (id : ℕ) → Names (needs_of types statement phase database) (Domain name id)
    → (earlier : ℕ) × (earlier ≤ phase) × Names (needs_of types statement earlier database) (Collection name))
    × ((name : List ℕ) (id : ℕ) (place : ArrayVec ℤ) → Names (needs_of types statement phase database) (Tile name id place)
    → (earlier : ℕ) × (earlier ≤ phase) × Names (needs_of types statement earlier database) (Domain name id))
