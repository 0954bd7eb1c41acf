-- What is asked for in a phase, of which databases a view tells it, and how an answer holds of each.
use Rattle.std.specs.Prelude.{◌≡◌, ℕ, suc, zero, false, List, [], Result, Ok, Err}
use Rattle.ras_cells.specs.Outcomes.{◌>>=◌}
use Rattle.ras_syntax.specs.declared.statement.Statement.{Statement}
use Rattle.ras_syntax.specs.declared.types.SetType.{SetType}
use Rattle.ras_syntax.specs.declared.typed.Checked.{Checked}
use Rattle.spec_expressions.specs.Database.{Database}
use Rattle.spec_shown.specs.Shown.{IsPartOf}
use Rattle.spec_statements.specs.Limits.{limited_locks}
use Rattle.spec_statements.specs.Locks.{Lock}
use Rattle.spec_statements.specs.Machine.{checked_over, first_list, is_too_long, needs_of, reply_of}
use Rattle.spec_statements.specs.Phases.{phase_4_list, until_plans}
use Rattle.spec_statements.specs.ReachLaw.{IsSetting}
use Rattle.spec_statements.specs.Reply.{Reply, reply_of_answer}
use Rattle.spec_statements.specs.Statement.{StatementTree}
use Rattle.spec_views.specs.Holdings.{Holdings, IsSeenBy}
use Rattle.ras_reach.specs.PhaseLists.{asked_in_2, asked_in_3}
use Rattle.ras_reach.specs.declared.first.NeedsFault.{NeedsFault}
use Rattle.ras_reach.specs.declared.first.NeedsFault.TheVariants.{Answer, Memory}

abbrev pub asked_in_4 : StatementTree → Database → Result (List Lock) Reply
asked_in_4 statement database = do
  plans ← until_plans statement database
  limited_locks statement (phase_4_list statement plans)

-- the list of a phase after the first, or the reply that comes in its place; other phases ask for nothing
abbrev pub asked_at : ℕ → StatementTree → Database → Result (List Lock) Reply
asked_at (suc (suc zero)) statement database = asked_in_2 statement database
asked_at (suc (suc (suc zero))) statement database = asked_in_3 statement database
asked_at (suc (suc (suc (suc zero)))) statement database = asked_in_4 statement database
asked_at phase statement database = Ok []

-- one database for which the view stands when the statement comes to a phase, and of which all is that the view holds; the
-- statement's check is over it
pub record IsAskedOne (types : List SetType) (statement : Statement) (holdings : Holdings) (checked : Checked) (phase : ℕ) (database : Database) : Type 0 where
  pub setting : IsSetting types statement database
  pub short : is_too_long (first_list statement) ≡ false
  pub check : checked_over types statement database ≡ Ok checked
  pub seen : IsSeenBy types holdings statement phase database
  pub part : IsPartOf types holdings database

-- the list is the one that the statement needs over a database, and an answer is its reply
abbrev pub IsNeeded : List SetType → Statement → ℕ → Database → Result (List Lock) NeedsFault → Type 0
IsNeeded types statement phase database (Ok list) = needs_of types statement phase database ≡ list
IsNeeded types statement phase database (Err (Answer answer)) = reply_of types statement database ≡ reply_of_answer answer
IsNeeded types statement phase database (Err Memory) = Unit {0}
