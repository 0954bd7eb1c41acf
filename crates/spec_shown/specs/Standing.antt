-- The database that holdings show of a statement: what isn't held is made up in it, and the statement can't tell it from the
-- databases for which the holdings stand.
use Rattle.std.specs.Prelude.{◌≡◌, ℕ, List, Ok}
use Rattle.ras_syntax.specs.declared.statement.Statement.{Statement}
use Rattle.ras_syntax.specs.declared.types.SetType.{SetType}
use Rattle.ras_syntax.specs.declared.typed.Checked.{Checked}
use Rattle.spec_expressions.specs.Database.{Database}
use Rattle.spec_shown.specs.Shown.{IsShownBy}
use Rattle.spec_statements.specs.Machine.{checked_over}
use Rattle.spec_statements.specs.ReachLaw.{IsSetting}
use Rattle.spec_statements.specs.Statement.{statement_tree_of}
use Rattle.spec_views.specs.Holdings.{Holdings, IsSeenBy}

-- the laws speak of the database, the holdings stand for it when the statement comes to the phase, its check is the same, and
-- its rows are those that the holdings show
pub record IsShown (types : List SetType) (statement : Statement) (holdings : Holdings) (checked : Checked) (phase : ℕ) (database : Database) : Type 0 where
  pub setting : IsSetting types statement database
  pub seen : IsSeenBy types holdings statement phase database
  pub check : checked_over types statement database ≡ Ok checked
  pub rows : IsShownBy holdings (statement_tree_of checked).request database
