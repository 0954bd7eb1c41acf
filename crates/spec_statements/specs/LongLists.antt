-- What becomes of a statement one of whose lists of locks is too long.
use Rattle.std.specs.Prelude.{◌≡◌, ℕ, ◌≤◌, List, []}
use Rattle.ras_syntax.specs.declared.faults.ShapeFault.TheVariants.{TooManyLocks}
use Rattle.spec_expressions.specs.Database.{Database}
use Rattle.spec_statements.specs.Effects.{reply_of_checked, effect_of_checked}
use Rattle.spec_statements.specs.Reply.{misfit}
use Rattle.spec_statements.specs.Phases.{needs_2, needs_3, needs_4}
use Rattle.spec_statements.specs.Limits.{whole_text}
use Rattle.ras_syntax.specs.declared.statement.Statement.{Statement}
use Rattle.ras_syntax.specs.declared.types.SetType.{SetType}
use Rattle.spec_statements.specs.Machine.{effect_of, needs_of, reply_of}
use Rattle.spec_statements.specs.Statement.{StatementTree}

-- it is answered so, has no effect, and asks for no list from this phase on
pub record IsRefusedFrom (phase : ℕ) (statement : StatementTree) (database : Database) : Type 0 where
  pub answer : reply_of_checked statement database ≡ misfit 0 (whole_text statement) TooManyLocks
  pub effect : effect_of_checked statement database ≡ database
  pub second : phase ≤ 2 → needs_2 statement database ≡ []
  pub third : phase ≤ 3 → needs_3 statement database ≡ []
  pub fourth : needs_4 statement database ≡ []

-- the same of a statement whose first list is too long: it isn't even checked
pub record IsRefusedAtFirst (types : List SetType) (statement : Statement) (database : Database) : Type 0 where
  pub answer : reply_of types statement database ≡ misfit 0 (record { from = 0; to = statement.length }) TooManyLocks
  pub effect : effect_of types statement database ≡ database
  pub lists : (phase : ℕ) → needs_of types statement phase database ≡ []
