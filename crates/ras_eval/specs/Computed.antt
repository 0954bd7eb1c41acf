-- What a statement computes in its rows.
use Rattle.std.specs.Prelude.{◌≡◌, ℕ, List, [], ◌∷◌, map, Option, Some, Result, Ok, Err}
use Rattle.std.specs.List.{AllByRecursion}
use Rattle.ras_cells.specs.Outcomes.{◌>>=◌}
use Rattle.ras_store.specs.declared.write.Computed.{Computed}
use Rattle.ras_store.specs.declared.write.Computed.TheVariants.{Rows, Writes}
use Rattle.ras_store.specs.declared.write.Write.{Write}
use Rattle.law_work.specs.Writes.{stores_of_write, writings_of}
use Rattle.ras_eval.specs.Cells.{CellStore}
use Rattle.ras_rows.specs.Plans.{planned}
use Rattle.ras_rows.specs.declared.stop.Stop.{Stop}
use Rattle.spec_views.specs.Holdings.{Holding, collection_held}
use Rattle.ras_syntax.specs.declared.span.Span.{Span}
use Rattle.ras_syntax.specs.declared.typed.Kind.{Kind}
use Rattle.spec_expressions.specs.Eval.{cells_of, domains_in}
use Rattle.spec_expressions.specs.Shape.{Box, shape_of}
use Rattle.spec_expressions.specs.Tree.{Tree, domain_of, node}
use Rattle.spec_statements.specs.Effects.{Stores, faulty_in, grown_of, insert_store, plan_stores, row_reply, update_store, values_of_plans}
use Rattle.spec_statements.specs.Plans.{Plan}
use Rattle.spec_statements.specs.Reply.{Reply, RowReply, row_reply_of}
use Rattle.spec_statements.specs.Rows.{Row, environment_of}
use Rattle.spec_statements.specs.Statement.{Request, StatementTree, select, insert, delete, update, create, drop}
use Rattle.spec_views.specs.Writings.{RowWriting, row_writing, writings_of_plans}

-- what a statement comes to before anything is stored: the rows of a select, or what is written
pub data ComputedValue : Type 0 where
  answered : List RowReply → ComputedValue
  written : List RowWriting → ComputedValue

abbrev pub computed_seen : Request → Computed → ComputedValue
computed_seen request (Rows rows) = answered (map row_reply_of rows)
computed_seen request (Writes writes) = written (writings_of request writes)

abbrev pub answered_in : Result (List RowReply) Reply → Result ComputedValue Reply
answered_in rows = do
  replies ← rows
  Ok (answered replies)

abbrev pub written_in_rows : Result (List RowWriting) Reply → Result ComputedValue Reply
written_in_rows rows = do
  writings ← rows
  Ok (written writings)

abbrev pub computed_of_plans : Request → List Plan → Result ComputedValue Reply
computed_of_plans (select body sources condition) plans = answered_in (values_of_plans body plans)
computed_of_plans (insert into of body) plans = written_in_rows (writings_of_plans (insert into of body) plans)
computed_of_plans (delete source condition) plans = written_in_rows (writings_of_plans (delete source condition) plans)
computed_of_plans (update source axes target body condition) plans =
    written_in_rows (writings_of_plans (update source axes target body condition) plans)
computed_of_plans (create name of) plans = written_in_rows (writings_of_plans (create name of) plans)
computed_of_plans (drop name) plans = written_in_rows (writings_of_plans (drop name) plans)

-- ---- row by row

-- what a select answers in a row
abbrev pub row_value : Tree → Plan → Result RowReply Reply
row_value body plan = do
  cells ← faulty_in plan.number (cells_of (environment_of plan.row) body)
  Ok (row_reply plan.shape cells)

-- the domain of a row's array afterwards, and what is stored
abbrev pub row_stores : CellStore → Tree → Plan → Result (Box × Stores) Reply
row_stores store body plan = do
  stores ← plan_stores store body plan
  Ok (grown_of plan, stores)

abbrev pub stores_seen : CellStore → Write → Box × Stores
stores_seen store write = (write.grown, stores_of_write store write)

-- what is written in a row
abbrev pub writing_in_row : CellStore → Tree → Plan → Result RowWriting Reply
writing_in_row store body plan = do
  stores ← plan_stores store body plan
  Ok (row_writing (plan, stores))

abbrev pub row_written : Request → Plan → Result RowWriting Reply
row_written (select body sources condition) plan = Ok (row_writing (plan, []))
row_written (insert into of body) plan = writing_in_row (insert_store of) body plan
row_written (delete source condition) plan = Ok (row_writing (plan, []))
row_written (update source axes target body condition) plan = writing_in_row (update_store source.of) body plan
row_written (create name of) plan = Ok (row_writing (plan, []))
row_written (drop name) plan = Ok (row_writing (plan, []))

-- what a write stands for
abbrev pub inserted_writing : CellStore → Write → RowWriting
inserted_writing store write = record { identifiers = []; grown = write.grown; stores = stores_of_write store write }

abbrev pub updated_writing : CellStore → Write → RowWriting
updated_writing store write = record { identifiers = write.oid ∷ []; grown = write.grown; stores = stores_of_write store write }

abbrev pub deleted_writing : Write → RowWriting
deleted_writing write = record { identifiers = write.oid ∷ []; grown = []; stores = [] }

abbrev pub writing_seen_of : Request → Write → RowWriting
writing_seen_of (select body sources condition) write = deleted_writing write
writing_seen_of (insert into of body) write = inserted_writing (insert_store of) write
writing_seen_of (delete source condition) write = deleted_writing write
writing_seen_of (update source axes target body condition) write = updated_writing (update_store source.of) write
writing_seen_of (create name of) write = deleted_writing write
writing_seen_of (drop name) write = deleted_writing write

-- ---- plans of a select

-- the shape of a row's plan is that of the body
pub record HasBodyShape (body : Tree) (plan : Plan) : Type 0 where
  pub shape : shape_of (domains_in (environment_of plan.row)) body ≡ Ok plan.shape

abbrev pub AreReadBy : Request → List Plan → Type 0
AreReadBy (select body sources condition) plans = AllByRecursion (HasBodyShape body) plans
AreReadBy (insert into of body) plans = Unit {0}
AreReadBy (delete source condition) plans = Unit {0}
AreReadBy (update source axes target body condition) plans = Unit {0}
AreReadBy (create name of) plans = Unit {0}
AreReadBy (drop name) plans = Unit {0}

-- the expression is the domain of another one
pub record IsDomainOf (e : Tree) : Type 0 where
  pub span : Span
  pub kind : Kind
  pub of : Tree
  pub same : e ≡ node span kind (domain_of of)

-- ---- the whole

-- of rows: what they come to by their plans, where there are all plans
abbrev pub computed_over : StatementTree → List (ℕ × Row) → Result ComputedValue Reply
computed_over statement rows = do
  plans ← planned statement rows
  computed_of_plans statement.request plans

-- writes, as what a statement comes to
abbrev pub computing_of : Result (List Write) Stop → Result Computed Stop
computing_of (Ok writes) = Ok (Writes writes)
computing_of (Err stop) = Err stop

-- the identifier that a collection gives out next, 0 where it isn't held
abbrev pub next_held : Option Holding → ℕ
next_held (Some (collection_held set_type next identifiers)) = next
next_held other = 0
