-- The machine that runs statements as they are written, one after another: each is checked over the collections that there
-- are, and then answered.
use Rattle.std.specs.Prelude.{ℕ, zero, suc, nat_lt, Bool, if◌then◌else◌, List, [], ◌∷◌, length, map, Result, Ok, Err}
use Rattle.ras_domain.specs.declared.lock.LockName.TheVariants as locks
use Rattle.ras_domain.specs.declared.lock.Mode.TheVariants.{Shared, Exclusive}
use Rattle.ras_syntax.specs.declared.faults.ShapeFault.TheVariants.{TooManyLocks}
use Rattle.ras_syntax.specs.declared.statement.SourceName.{SourceName}
use Rattle.ras_syntax.specs.declared.statement.Statement.{Statement}
use Rattle.ras_syntax.specs.declared.statement.StatementForm.{StatementForm}
use Rattle.ras_syntax.specs.declared.statement.StatementForm.TheVariants.{Select, Insert, Delete, Update, Create, Drop, Word}
use Rattle.ras_syntax.specs.declared.types.SetType.{SetType}
use Rattle.ras_syntax.specs.declared.typed.Checked.{Checked}
use Rattle.spec_statements.specs.Reply.{Reply, misfit, unchecked}
use Rattle.spec_statements.specs.Effects.{reply_of_checked, effect_of_checked, run_by}
use Rattle.spec_statements.specs.Phases.{needs_2, needs_3, needs_4}
use Rattle.spec_expressions.specs.Check.{CheckMisfit}
use Rattle.spec_statements.specs.CheckStatement.{Catalog, checked_statement}
use Rattle.spec_expressions.specs.Database.{Database}
use Rattle.spec_statements.specs.Locks.{Lock, lock_list}
use Rattle.spec_statements.specs.Statement.{StatementTree, statement_tree_of}
use Rattle.ras_syntax.specs.declared.limits.TheConstants.{MAX_LOCKS}

-- what the check reads of a database: which collections there are, and their set types
abbrev pub catalog_of : List SetType → Database → Catalog
catalog_of types database = record { types = types; collections = map (λ entry. (entry.0, entry.1.set_type)) database }

abbrev pub checked_over : List SetType → Statement → Database → Result Checked CheckMisfit
checked_over types statement database = checked_statement (catalog_of types database) statement

-- ---- the first phase, which is asked for before the check

abbrev pub read_lock : SourceName → Lock
read_lock source = (locks.Collection source.collection.name, Shared)

-- a select reads its sources and an update its target; every other statement is alone with its collection
abbrev pub wanted_at_first : StatementForm → List Lock
wanted_at_first (Select body sources cond) = map read_lock sources
wanted_at_first (Insert into body) = (locks.Collection into.name, Exclusive) ∷ []
wanted_at_first (Delete source cond) = (locks.Collection source.collection.name, Exclusive) ∷ []
wanted_at_first (Update source set axes target body cond) = read_lock source ∷ []
wanted_at_first (Create name of) = (locks.Collection name.name, Exclusive) ∷ []
wanted_at_first (Drop name) = (locks.Collection name.name, Exclusive) ∷ []
wanted_at_first (Word word) = []

abbrev pub first_list : Statement → List Lock
first_list statement = lock_list (wanted_at_first statement.form)

-- ---- answer, effect and lock lists of a statement as it is written

abbrev pub reply_after_check : Result Checked CheckMisfit → Database → Reply
reply_after_check (Ok checked) database = reply_of_checked (statement_tree_of checked) database
reply_after_check (Err fault) database = unchecked fault.0 fault.1

abbrev pub effect_after_check : Result Checked CheckMisfit → Database → Database
effect_after_check (Ok checked) database = effect_of_checked (statement_tree_of checked) database
effect_after_check (Err fault) database = database

abbrev pub is_too_long : List Lock → Bool
is_too_long asked = nat_lt MAX_LOCKS (length asked)

abbrev pub reply_of : List SetType → Statement → Database → Reply
reply_of types statement database =
    if is_too_long (first_list statement) then misfit 0 (record { from = 0; to = statement.length }) TooManyLocks
    else reply_after_check (checked_over types statement database) database

abbrev pub effect_of : List SetType → Statement → Database → Database
effect_of types statement database =
    if is_too_long (first_list statement) then database
    else effect_after_check (checked_over types statement database) database

abbrev pub list_after_check : (StatementTree → Database → List Lock) → Result Checked CheckMisfit → Database → List Lock
list_after_check needs (Ok checked) database = needs (statement_tree_of checked) database
list_after_check needs (Err fault) database = []

abbrev pub limited_first : List Lock → List Lock
limited_first asked = if is_too_long asked then [] else asked

-- the list of a later phase, empty where the first one was too long or the check has a fault
abbrev pub later_list : (StatementTree → Database → List Lock) → List SetType → Statement → Database → List Lock
later_list needs types statement database =
    if is_too_long (first_list statement) then [] else list_after_check needs (checked_over types statement database) database

-- phases are counted from 1 to 4
abbrev pub needs_of : List SetType → Statement → ℕ → Database → List Lock
needs_of types statement (suc zero) database = limited_first (first_list statement)
needs_of types statement (suc (suc zero)) database = later_list needs_2 types statement database
needs_of types statement (suc (suc (suc zero))) database = later_list needs_3 types statement database
needs_of types statement (suc (suc (suc (suc zero)))) database = later_list needs_4 types statement database
needs_of types statement phase database = []

-- the answers of statements in order, and the last database
abbrev pub machine : List SetType → List Statement → Database → List Reply × Database
machine types = run_by (reply_of types) (effect_of types)
