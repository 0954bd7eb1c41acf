-- What a statement writes, told apart from the database that it is written to.
use Rattle.std.specs.Prelude.{ℕ, List, [], ◌∷◌, map, flat_map, Option, Some, None, Result, Ok, Err}
use Rattle.std.specs.BTreeMap.{insert_entry}
use Rattle.std.specs.Ordering.{nat_cmp}
use Rattle.ras_cells.specs.Outcomes.{◌>>=◌}
use Rattle.ras_syntax.specs.declared.types.SetType.{SetType}
use Rattle.spec_expressions.specs.Database.{Array, Collection, Database, array_of}
use Rattle.spec_expressions.specs.Shape.{Box}
use Rattle.spec_statements.specs.Effects.{Stores, empty_collection, grown_of, insert_store, no_array, row_identifiers, stores_of_plans, update_store, values_of_plans, with_arrays, with_changed, with_collection, with_inserted, without_arrays, without_collection, written_array}
use Rattle.spec_statements.specs.Phases.{until_bodies}
use Rattle.spec_statements.specs.Plans.{Plan}
use Rattle.spec_statements.specs.Reply.{Reply}
use Rattle.spec_statements.specs.Statement.{Request, StatementTree, select, insert, delete, update, create, drop}

-- of one row: the identifiers of its arrays, the domain that the written array has afterwards, and what is stored at points
pub record RowWriting : Type 0 where
  pub identifiers : List ℕ
  pub grown : Box
  pub stores : Stores

abbrev pub row_writing : Plan × Stores → RowWriting
row_writing made = record { identifiers = row_identifiers made.0.row; grown = grown_of made.0; stores = made.1 }

abbrev pub writings_of_plans : Request → List Plan → Result (List RowWriting) Reply
writings_of_plans (select body sources condition) plans = do
  rows ← values_of_plans body plans
  Ok []
writings_of_plans (insert into of body) plans = do
  made ← stores_of_plans (insert_store of) body plans
  Ok (map row_writing made)
writings_of_plans (delete source condition) plans = Ok (map (λ plan. row_writing (plan, [])) plans)
writings_of_plans (update source axes target body condition) plans = do
  made ← stores_of_plans (update_store source.of) body plans
  Ok (map row_writing made)
writings_of_plans (create name of) plans = Ok []
writings_of_plans (drop name) plans = Ok []

-- what a checked statement writes in each of its rows, or the reply that it ends with before; a select, a create and a drop
-- write in none
abbrev pub written_by : StatementTree → Database → Result (List RowWriting) Reply
written_by statement database = do
  plans ← until_bodies statement database
  writings_of_plans statement.request plans

-- ---- written to a database

-- an array of a row is written over as it was before the statement
abbrev pub with_rewritten : SetType → Option Array → ℕ → RowWriting → List (ℕ × Array) → List (ℕ × Array)
with_rewritten of None id writing arrays = arrays
with_rewritten of (Some array) id writing arrays = insert_entry nat_cmp arrays id (written_array of array writing.grown writing.stores)

abbrev pub with_row_writing : SetType → Collection → List ℕ → RowWriting → List (ℕ × Array) → List (ℕ × Array)
with_row_writing of before [] writing arrays = arrays
with_row_writing of before (id ∷ ids) writing arrays = with_rewritten of (array_of before id) id writing arrays

abbrev pub with_writings : SetType → Collection → List (ℕ × Array) → List RowWriting → List (ℕ × Array)
with_writings of before arrays [] = arrays
with_writings of before arrays (writing ∷ writings) =
    with_writings of before (with_row_writing of before writing.identifiers writing arrays) writings

abbrev pub applied : Request → List RowWriting → Database → Database
applied (select body sources condition) writings database = database
applied (insert into of body) [] database = database
applied (insert into of body) (writing ∷ writings) database =
    with_changed into (λ collection. with_inserted collection (written_array of no_array writing.grown writing.stores)) database
applied (delete source condition) writings database =
    with_changed source.collection (λ collection. with_arrays collection
    (without_arrays collection.arrays (flat_map (λ writing. writing.identifiers) writings))) database
applied (update source axes target body condition) writings database =
    with_changed source.collection (λ collection. with_arrays collection (with_writings source.of collection collection.arrays writings)) database
applied (create name of) writings database = with_collection name (empty_collection of) database
applied (drop name) writings database = without_collection name database

-- a statement that ends with a reply before it writes has no effect
abbrev pub applied_in : Request → Result (List RowWriting) Reply → Database → Database
applied_in request (Ok writings) database = applied request writings database
applied_in request (Err reply) database = database
