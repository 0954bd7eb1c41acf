-- What a transaction's work sees and has changed.
use Rattle.std.specs.Prelude.{◌≡◌, ℕ, List, ◌++◌, Ok, Option, false}
use Rattle.ras_domain.specs.declared.lock.LockName.{LockName}
use Rattle.ras_store.specs.declared.change.Change.{Change}
use Rattle.ras_store.specs.declared.write.Computed.{Computed}
use Rattle.ras_store.specs.Databases.{holdings_of, rewrites_of}
use Rattle.ras_store.specs.Kept.{Kept, changed_by_all}
use Rattle.ras_store.specs.View.{view_kept}
use Rattle.ras_syntax.specs.declared.statement.Statement.{Statement}
use Rattle.ras_syntax.specs.declared.typed.Checked.{Checked}
use Rattle.ras_syntax.specs.declared.types.SetType.{SetType}
use Rattle.ras_work.specs.declared.work.Work.{Work}
use Rattle.spec_expressions.specs.Database.{Database}
use Rattle.spec_expressions.specs.SetTypes.{AreTypes}
use Rattle.spec_statements.specs.Machine.{checked_over, effect_of, first_list, is_too_long, reply_of}
use Rattle.spec_statements.specs.Reply.{done}
use Rattle.spec_statements.specs.Statement.{statement_tree_of}
use Rattle.spec_views.specs.Holdings.{Holdings, IsSeenBy}
use Rattle.spec_views.specs.Work.{RewritesTo}
use Rattle.spec_views.specs.Writings.{written_by}
use Rattle.law_work.specs.Writes.{writes_in, writings_of}
use Rattle.ras_work.specs.Made.{AreMade}

-- what a work sees under a name, and its changes so far, in order
abbrev pub work_kept : Work → LockName → Option Kept
work_kept work = view_kept work.view

abbrev pub work_changes : Work → List Change
work_changes work = work.written.changes

-- what a work wrote, it sees: its changes would change nothing that it sees
abbrev pub IsOwnSeen : Work → Type 0
IsOwnSeen work = (name : LockName) → changed_by_all (work_changes work) name (work_kept work name) ≡ work_kept work name

-- the same is seen, and the changes are the same
pub record IsSameWork (old new : Work) : Type 0 where
  pub kept : (name : LockName) → work_kept new name ≡ work_kept old name
  pub changes : work_changes new ≡ work_changes old

-- more changes were made
pub record IsChangedWork (old new : Work) (more : List Change) : Type 0 where
  pub kept : (name : LockName) → work_kept new name ≡ changed_by_all more name (work_kept old name)
  pub changes : work_changes new ≡ work_changes old ++ more

-- changes do what a statement does to each database that was seen, and this is the number of its answer
abbrev pub IsEffect : Checked → Computed → Holdings → List Change → ℕ → Type 0
IsEffect checked computed holdings more number =
    (types : List SetType) (statement : Statement) (database : Database)
    → AreTypes types → is_too_long (first_list statement) ≡ false → checked_over types statement database ≡ Ok checked
    → IsSeenBy types holdings statement 5 database
    → written_by (statement_tree_of checked) database ≡ Ok (writings_of (statement_tree_of checked).request (writes_in computed))
    → RewritesTo types (rewrites_of more) database (effect_of types statement database) × (reply_of types statement database ≡ done number)

-- a statement was applied: its changes are those that its writes stand for, by what was seen
pub record IsApplied (checked : Checked) (computed : Computed) (number : ℕ) (old new : Work) : Type 0 where
  pub more : List Change
  pub changed : IsChangedWork old new more
  pub made : AreMade (statement_tree_of checked).request (holdings_of (work_kept old)) (writes_in computed) more number
  pub effect : IsEffect checked computed (holdings_of (work_kept old)) more number
