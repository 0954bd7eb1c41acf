-- The limits on rows, on the locks of a phase and on the cells of a reply.
use Rattle.std.specs.Prelude.{ℕ, nat_lt, Bool, true, false, if◌then◌else◌, List, length, map, sum, Result, Ok, Err}
use Rattle.ras_syntax.specs.declared.span.Span.{Span}
use Rattle.ras_syntax.specs.declared.faults.ShapeFault.TheVariants.{ReplyTooLarge, TooManyRows, TooManyLocks}
use Rattle.spec_statements.specs.Statement.{Request, StatementTree, select, insert, delete, update, create, drop}
use Rattle.spec_expressions.specs.Shape.{Shape, scalar, array, box}
use Rattle.ras_domain.specs.Region.{volume_of}
use Rattle.spec_statements.specs.Rows.{Row, with_row_numbers}
use Rattle.spec_statements.specs.Locks.{Lock}
use Rattle.spec_statements.specs.Reply.{Reply, misfit}
use Rattle.spec_statements.specs.Plans.{Plan}
use Rattle.ras_syntax.specs.declared.limits.TheConstants.{MAX_ROWS, MAX_LOCKS, MAX_REPLY_CELLS}

abbrev pub whole_text : StatementTree → Span
whole_text statement = record { from = 0; to = statement.length }

-- a statement with too many rows, too long a list of locks or too large a reply is refused as a whole
abbrev pub limited_rows : StatementTree → List Row → Result (List (ℕ × Row)) Reply
limited_rows statement rows =
    if nat_lt MAX_ROWS (length rows) then Err (misfit 0 (whole_text statement) TooManyRows) else Ok (with_row_numbers 1 rows)

abbrev pub limited_locks : StatementTree → List Lock → Result (List Lock) Reply
limited_locks statement asked =
    if nat_lt MAX_LOCKS (length asked) then Err (misfit 0 (whole_text statement) TooManyLocks) else Ok asked

-- how many cells a row of a reply has: a scalar or a domain counts as one
abbrev pub reply_cells : Shape → ℕ
reply_cells scalar = 1
reply_cells (array axes) = volume_of axes
reply_cells (box axes) = 1

abbrev pub limited_reply : StatementTree → List Plan → Result (List Plan) Reply
limited_reply statement plans =
    if nat_lt MAX_REPLY_CELLS (sum (map (λ plan. reply_cells plan.shape) plans)) then Err (misfit 0 (whole_text statement) ReplyTooLarge) else Ok plans

abbrev pub is_select : Request → Bool
is_select (select body sources condition) = true
is_select (insert into of body) = false
is_select (delete source condition) = false
is_select (update source axes target body condition) = false
is_select (create name of) = false
is_select (drop name) = false

abbrev pub limited_plans : StatementTree → List Plan → Result (List Plan) Reply
limited_plans statement plans = if is_select statement.request then limited_reply statement plans else Ok plans
