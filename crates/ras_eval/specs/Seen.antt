-- What a call over a view is told of the databases for which the view stands, and how its answer holds of each.
use Rattle.std.specs.Prelude.{◌≡◌, ℕ, false, List, map, Result, Ok, Err}
use Rattle.law_work.specs.Writes.{writings_of}
use Rattle.ras_rows.specs.declared.stop.Stop.{Stop}
use Rattle.ras_rows.specs.declared.stop.Stop.TheVariants.{Answer, Memory}
use Rattle.ras_store.specs.declared.write.Computed.{Computed}
use Rattle.ras_store.specs.declared.write.Computed.TheVariants.{Rows, Writes}
use Rattle.ras_syntax.specs.declared.faults.ShapeFault.TheVariants.{TooManyLocks}
use Rattle.ras_syntax.specs.declared.statement.Statement.{Statement}
use Rattle.ras_syntax.specs.declared.types.SetType.{SetType}
use Rattle.ras_syntax.specs.declared.typed.Checked.{Checked}
use Rattle.spec_expressions.specs.Database.{Database}
use Rattle.spec_shown.specs.Shown.{IsPartOf}
use Rattle.spec_statements.specs.Limits.{whole_text}
use Rattle.spec_statements.specs.Machine.{checked_over, first_list, is_too_long, reply_of}
use Rattle.spec_statements.specs.ReachLaw.{IsSetting}
use Rattle.spec_statements.specs.Reply.{Reply, misfit, reply_of_answer, row_reply_of, values}
use Rattle.spec_statements.specs.Statement.{StatementTree, request_of, statement_tree_of}
use Rattle.spec_views.specs.Holdings.{Holdings, IsSeenBy}
use Rattle.spec_views.specs.Writings.{written_by}

-- one database for which the view stands when the statement comes to a phase, and of which all is that the view holds; the
-- statement's check is over it
pub record IsSeenOne (types : List SetType) (statement : Statement) (holdings : Holdings) (checked : Checked) (phase : ℕ) (database : Database) : Type 0 where
  pub setting : IsSetting types statement database
  pub short : is_too_long (first_list statement) ≡ false
  pub check : checked_over types statement database ≡ Ok checked
  pub seen : IsSeenBy types holdings statement phase database
  pub part : IsPartOf types holdings database

-- a list of locks of the statement is too long
abbrev pub too_many_locks : StatementTree → Reply
too_many_locks tree = misfit 0 (whole_text tree) TooManyLocks

-- the rows are the reply over a database, the writes are what is written to it, and another answer is the reply, with which
-- the statement ends before anything is written
abbrev pub IsComputedAs : List SetType → Statement → Checked → Database → Result Computed Stop → Type 0
IsComputedAs types statement checked database (Ok (Rows rows)) = reply_of types statement database ≡ values (map row_reply_of rows)
IsComputedAs types statement checked database (Ok (Writes writes)) =
    written_by (statement_tree_of checked) database ≡ Ok (writings_of (request_of checked.form) writes)
IsComputedAs types statement checked database (Err (Answer answer)) =
    (reply_of types statement database ≡ reply_of_answer answer) × (written_by (statement_tree_of checked) database ≡ Err (reply_of_answer answer))
IsComputedAs types statement checked database (Err Memory) = Unit {0}
