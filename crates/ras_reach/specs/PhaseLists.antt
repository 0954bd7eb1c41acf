-- What a checked statement asks for in its later phases, or the answer that comes in its place.
use Rattle.std.specs.Prelude.{ℕ, List, Result}
use Rattle.ras_cells.specs.Outcomes.{◌>>=◌}
use Rattle.ras_rows.specs.Plans.{planned}
use Rattle.spec_expressions.specs.Database.{Database}
use Rattle.spec_statements.specs.Limits.{limited_locks}
use Rattle.spec_statements.specs.Locks.{Lock}
use Rattle.spec_statements.specs.Phases.{phase_2_list, phase_3_list, phase_4_list, until_condition, until_rows}
use Rattle.spec_statements.specs.Reply.{Reply}
use Rattle.spec_statements.specs.Rows.{Row}
use Rattle.spec_statements.specs.Statement.{StatementTree}

abbrev pub asked_in_2 : StatementTree → Database → Result (List Lock) Reply
asked_in_2 statement database = do
  rows ← until_rows statement database
  limited_locks statement (phase_2_list statement rows)

abbrev pub asked_in_3 : StatementTree → Database → Result (List Lock) Reply
asked_in_3 statement database = do
  rows ← until_condition statement database
  limited_locks statement (phase_3_list statement rows)

-- of the rows that pass; where a statement has passing rows, its list in the fourth phase is this one
abbrev pub asked_of_passing : StatementTree → List (ℕ × Row) → Result (List Lock) Reply
asked_of_passing statement rows = do
  plans ← planned statement rows
  limited_locks statement (phase_4_list statement plans)
