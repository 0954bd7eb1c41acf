-- The reply of a checked statement, and what it leaves of a database.
use Rattle.std.specs.Prelude.{ℕ, ◌+◌, ℤ, List, ◌∷◌, length, map, flat_map, Option, Some, None, Result, Ok, Err, []}
use Rattle.std.specs.Map.{lookup, remove_entry}
use Rattle.std.specs.BTreeMap.{insert_entry}
use Rattle.std.specs.Ordering.{nat_cmp, int_cmp, is_eq}
use Rattle.std.specs.Cmp.Lexicographic.{slice_cmp}
use Rattle.arrayvec.specs.ArrayVec.{ArrayVec}
use Rattle.ras_cells.specs.declared.cell.Cell.{Cell}
use Rattle.ras_cells.specs.declared.cell.Cell.TheVariants.{Null, Value}
use Rattle.ras_cells.specs.declared.cell.CellFault.{CellFault}
use Rattle.ras_cells.specs.Stored.{stored_of, default_of}
use Rattle.ras_domain.specs.Region.{points_of}
use Rattle.ras_syntax.specs.declared.types.SetType.{SetType}
use Rattle.spec_statements.specs.Statement.{Request, StatementTree, select, insert, delete, update, create, drop}
use Rattle.spec_expressions.specs.Tree.{Tree}
use Rattle.spec_expressions.specs.Database.{Array, Collection, Database, collection_of, stored_at}
use Rattle.spec_expressions.specs.Shape.{Box, Shape, Cut, scalar, array, box, box_of}
use Rattle.spec_expressions.specs.Eval.{Environment, cell_at, cells_of}
use Rattle.spec_statements.specs.Rows.{Row, environment_of}
use Rattle.spec_statements.specs.Reply.{RowReply, one_cell, one_domain, all_cells, Reply, values, done, faulty}
use Rattle.spec_statements.specs.Plans.{Writing, target_point, Plan}
use Rattle.spec_statements.specs.Phases.{until_bodies}
use Rattle.ras_cells.specs.Outcomes.{◌>>=◌}

abbrev pub faulty_in : {X : Type 0} → ℕ → Result X (List ℤ × CellFault) → Result X Reply
faulty_in k (Ok x) = Ok x
faulty_in k (Err fault) = Err (faulty k fault.0 fault.1)

abbrev pub first_cell : List Cell → Cell
first_cell [] = Null
first_cell (cell ∷ cells) = cell

abbrev pub row_reply : Shape → List Cell → RowReply
row_reply scalar cells = one_cell (first_cell cells)
row_reply (array axes) cells = all_cells axes cells
row_reply (box axes) cells = one_domain axes

abbrev pub values_of_plans : Tree → List Plan → Result (List RowReply) Reply
values_of_plans body [] = Ok []
values_of_plans body (plan ∷ plans) = do
  cells ← faulty_in plan.number (cells_of (environment_of plan.row) body)
  others ← values_of_plans body plans
  Ok (row_reply plan.shape cells ∷ others)

-- stored numbers at points of the region, none where the cell is left as it is
abbrev pub Stores : Type 0
Stores = List (List ℤ × Option (List ℤ))

abbrev pub written_numbers : Result (ArrayVec ℤ) CellFault → Result (Option (List ℤ)) CellFault
written_numbers (Ok numbers) = Ok (Some numbers.items)
written_numbers (Err fault) = Err fault

-- an insert stores null as the first null value, an update leaves the cell
abbrev pub insert_store : SetType → Cell → Result (Option (List ℤ)) CellFault
insert_store of cell = written_numbers (stored_of cell of.cell of.nulls)

abbrev pub update_store : SetType → Cell → Result (Option (List ℤ)) CellFault
update_store of Null = Ok None
update_store of (Value numbers) = written_numbers (stored_of (Value numbers) of.cell of.nulls)

abbrev pub at_body_point : {X : Type 0} → List ℤ → Result X CellFault → Result X (List ℤ × CellFault)
at_body_point p (Ok x) = Ok x
at_body_point p (Err fault) = Err (p, fault)

-- what is stored for each point of the body, or the least point whose cell or whose storing has a fault
abbrev pub stores_at : (Cell → Result (Option (List ℤ)) CellFault) → Environment → Tree → List Cut → List (List ℤ) → Result Stores (List ℤ × CellFault)
stores_at store scope body cuts [] = Ok []
stores_at store scope body cuts (p ∷ ps) = do
  cell ← at_body_point p (cell_at scope body p)
  stored ← at_body_point p (store cell)
  others ← stores_at store scope body cuts ps
  Ok ((target_point cuts p, stored) ∷ others)

abbrev pub body_points : Plan → List (List ℤ)
body_points plan = points_of (box_of plan.shape)

abbrev pub plan_stores : (Cell → Result (Option (List ℤ)) CellFault) → Tree → Plan → Result Stores Reply
plan_stores store body plan =
    faulty_in plan.number (stores_at store (environment_of plan.row) body plan.cuts (body_points plan))

abbrev pub stores_of_plans : (Cell → Result (Option (List ℤ)) CellFault) → Tree → List Plan → Result (List (Plan × Stores)) Reply
stores_of_plans store body [] = Ok []
stores_of_plans store body (plan ∷ plans) = do
  stores ← plan_stores store body plan
  others ← stores_of_plans store body plans
  Ok ((plan, stores) ∷ others)

abbrev pub option_flat : {X : Type 0} → Option (Option X) → Option X
option_flat None = None
option_flat (Some x) = x

abbrev pub store_for : List ℤ → Stores → Option (List ℤ)
store_for p stores = option_flat (lookup (λ q. is_eq (slice_cmp int_cmp p q)) stores)

abbrev pub or_else : Option (List ℤ) → List ℤ → List ℤ
or_else None numbers = numbers
or_else (Some numbers) others = numbers

-- the numbers at a point afterwards: what was written, else what stood there, else the default cell
abbrev pub number_after : SetType → Array → Stores → List ℤ → List ℤ
number_after of before stores p = or_else (store_for p stores) (or_else (stored_at before p) (default_of of.cell of.nulls).items)

abbrev pub written_array : SetType → Array → Box → Stores → Array
written_array of before grown stores =
    record { domain = grown; stored = map (λ p. (p, number_after of before stores p)) (points_of grown) }

abbrev pub no_array : Array
no_array = record { domain = []; stored = [] }

abbrev pub grown_in : Option Writing → Box
grown_in None = []
grown_in (Some writing) = writing.grown

abbrev pub grown_of : Plan → Box
grown_of plan = grown_in plan.writing

abbrev pub with_collection : List ℕ → Collection → Database → Database
with_collection name collection database = insert_entry (slice_cmp nat_cmp) database name collection

abbrev pub without_collection : List ℕ → Database → Database
without_collection name database = remove_entry (λ other. is_eq (slice_cmp nat_cmp name other)) database

abbrev pub with_arrays : Collection → List (ℕ × Array) → Collection
with_arrays collection arrays = record collection { arrays = arrays }

abbrev pub empty_collection : ℕ → Collection
empty_collection set_type = record { set_type = set_type; next = 1; arrays = [] }

-- a new array under the next identifier
abbrev pub with_inserted : Collection → Array → Collection
with_inserted collection inserted_array = record {
  set_type = collection.set_type;
  next = collection.next + 1;
  arrays = insert_entry nat_cmp collection.arrays collection.next inserted_array;
}

abbrev pub without_array : List (ℕ × Array) → ℕ → List (ℕ × Array)
without_array arrays id = remove_entry (λ other. is_eq (nat_cmp id other)) arrays

abbrev pub row_identifiers : Row → List ℕ
row_identifiers row = map (λ member. member.oid) row

abbrev pub without_arrays : List (ℕ × Array) → List ℕ → List (ℕ × Array)
without_arrays arrays [] = arrays
without_arrays arrays (id ∷ ids) = without_arrays (without_array arrays id) ids

abbrev pub with_row : SetType → List (ℕ × Array) → Row → Box → Stores → List (ℕ × Array)
with_row of arrays [] grown stores = arrays
with_row of arrays (member ∷ others) grown stores =
    insert_entry nat_cmp arrays member.oid (written_array of member.array grown stores)

-- an update writes the one array of each row
abbrev pub with_updated : SetType → List (ℕ × Array) → List (Plan × Stores) → List (ℕ × Array)
with_updated of arrays [] = arrays
with_updated of arrays (done_plan ∷ others) =
    with_updated of (with_row of arrays done_plan.0.row (grown_of done_plan.0) done_plan.1) others

abbrev pub with_changed_if_any : List ℕ → (Collection → Collection) → Option Collection → Database → Database
with_changed_if_any name change None database = database
with_changed_if_any name change (Some collection) database = with_collection name (change collection) database

abbrev pub with_changed : List ℕ → (Collection → Collection) → Database → Database
with_changed name change database = with_changed_if_any name change (collection_of database name) database

-- the answer with the database that it leaves
abbrev pub StatementOutcome : Type 0
StatementOutcome = Reply × Database

abbrev pub next_of : Option Collection → ℕ
next_of None = 1
next_of (Some collection) = collection.next

abbrev pub insert_outcome : List ℕ → SetType → Database → List (Plan × Stores) → StatementOutcome
insert_outcome into of database [] = (done 0, database)
insert_outcome into of database (one ∷ others) = (
  done (next_of (collection_of database into)),
  with_changed into (λ collection. with_inserted collection (written_array of no_array (grown_of one.0) one.1)) database,
)

-- what a statement does once its plans are made
abbrev pub outcome_of_plans : Request → List Plan → Database → Result StatementOutcome Reply
outcome_of_plans (select body sources condition) plans database = do
  rows ← values_of_plans body plans
  Ok (values rows, database)
outcome_of_plans (insert into of body) plans database = do
  stores ← stores_of_plans (insert_store of) body plans
  Ok (insert_outcome into of database stores)
outcome_of_plans (delete source condition) plans database =
    Ok (
      done (length plans),
      with_changed source.collection (λ collection. with_arrays collection
          (without_arrays collection.arrays (flat_map (λ plan. row_identifiers plan.row) plans))) database,
    )
outcome_of_plans (update source axes target body condition) plans database = do
  stores ← stores_of_plans (update_store source.of) body plans
  Ok (done (length plans), with_changed source.collection (λ collection. with_arrays collection (with_updated source.of collection.arrays stores)) database)
outcome_of_plans (create name of) plans database = Ok (done 0, with_collection name (empty_collection of) database)
outcome_of_plans (drop name) plans database = Ok (done 0, without_collection name database)

abbrev pub outcome_of : StatementTree → Database → Result StatementOutcome Reply
outcome_of statement database = do
  plans ← until_bodies statement database
  outcome_of_plans statement.request plans database

abbrev pub reply_in : Result StatementOutcome Reply → Reply
reply_in (Ok outcome) = outcome.0
reply_in (Err reply) = reply

-- a statement that isn't answered by values or as done has no effect
abbrev pub database_in : Database → Result StatementOutcome Reply → Database
database_in database (Ok outcome) = outcome.1
database_in database (Err reply) = database

abbrev pub reply_of_checked : StatementTree → Database → Reply
reply_of_checked statement database = reply_in (outcome_of statement database)

abbrev pub effect_of_checked : StatementTree → Database → Database
effect_of_checked statement database = database_in database (outcome_of statement database)

-- the answers of statements in order, each over what those before it have left, and the last database
abbrev pub run_by : {S : Type 0} → (S → Database → Reply) → (S → Database → Database) → List S → Database → List Reply × Database
run_by answer effect [] database = ([], database)
run_by answer effect (statement ∷ statements) database = (
  answer statement database ∷ (run_by answer effect statements (effect statement database)).0,
  (run_by answer effect statements (effect statement database)).1,
)

abbrev pub run_of : List StatementTree → Database → List Reply × Database
run_of = run_by reply_of_checked effect_of_checked
