-- Effects and runs keep a database valid.
use Rattle.std.proofs.Common.{◌≡◌, ℕ, List, [], ◌∷◌, length, flat_map, Option, Some, IfSome, Result, Ok, Err, refl, subst}
use Rattle.std.specs.List.{AllByRecursion}
use Rattle.ras_cells.specs.Atoms.{AreInRange}
use Rattle.ras_cells.specs.Stored.{IsNullSetOf, atoms_of}
use Rattle.ras_syntax.specs.declared.span.Span.{Span}
use Rattle.ras_syntax.specs.declared.statement.Statement.{Statement}
use Rattle.ras_syntax.specs.declared.types.SetType.{SetType}
use Rattle.ras_syntax.specs.declared.typed.Checked.{Checked}
use Rattle.ras_syntax.specs.declared.typed.CheckedSource.{CheckedSource}
use Rattle.spec_expressions.specs.Check.{CheckMisfit}
use Rattle.spec_expressions.specs.Database.{Array, Collection, Database, Member, collection_of}
use Rattle.spec_expressions.specs.SetTypes.{AreTypes}
use Rattle.spec_expressions.specs.Tree.{Axes, Condition, Tree}
use Rattle.spec_statements.specs.Effects.{StatementOutcome, Stores, with_changed, database_in, effect_of_checked, empty_collection, outcome_of_plans, grown_of, insert_store, insert_outcome, outcome_of, row_identifiers, stores_of_plans, update_store, values_of_plans, with_arrays, with_collection, with_updated, without_arrays, without_collection}
use Rattle.spec_statements.specs.Plans.{Plan, insert_plan, update_plan}
use Rattle.spec_statements.specs.Reply.{Reply, done, values}
use Rattle.spec_statements.specs.Phases.{until_bodies}
use Rattle.spec_statements.specs.Locks.{Lock}
use Rattle.spec_statements.specs.Machine.{checked_over, effect_after_check, first_list, is_too_long, effect_of, machine, wanted_at_first}
use Rattle.spec_statements.specs.Rows.{Row, asked_of}
use Rattle.spec_statements.specs.Statement.{Request, StatementTree, statement_tree_of, select, insert, delete, update, create, drop}
use Rattle.spec_statements.specs.Validity.{IsArrayOf, IsValidFor}
use Rattle.law_shapes.proofs.Outcomes.{bind_ok}
use Rattle.law_lists.proofs.Choices.{either_way, ok_keeps}
use Rattle.law_effects.proofs.Checked.{HasStaticAxes, IsCheckedOver, statement_checked, type_in}
use Rattle.law_effects.proofs.Plans.{IsUpdatePlan, insert_plan-fits, update_plan_ok}
use Rattle.law_effects.proofs.Rows.{HasOne, until_bodies_ok, until_plans-each}
use Rattle.law_effects.proofs.Stores.{insert_store-fits, plan_stores-each, stores_of_plans-each, update_store-fits}
use Rattle.law_effects.proofs.Validity.{IsEntryOf, IsInserted, IsMemberIn, IsUpdated, changed-valid, collection-arrays, collection-from, collection_in, create-valid, delete-valid, each_row, inserted-valid, type_fits, updated-arrays, without_collection-valid}
use Rattle.law_effects.proofs.Written.{IsFit}

-- a request with the length of its text
abbrev statement_with : Request → ℕ → StatementTree
statement_with request length = record { request = request; length = length }

-- ---- an insert

-- an insert's plans, what is stored, and what they leave
insert-fits : (of : SetType) (into : List ℕ) (body : Tree) (length : ℕ) (database : Database) (plans : List Plan)
    → until_bodies (statement_with (insert into of body) length) database ≡ Ok plans → AllByRecursion (λ plan. IsFit of (grown_of plan)) plans
insert-fits of into body length database plans is =
    until_plans-each (statement_with (insert into of body) length) database (λ row. row ≡ []) (λ plan. IsFit of (grown_of plan))
    (λ row plan none made. insert_plan-fits of body row.0 plan (subst (λ r. insert_plan of body (row.0, r) ≡ Ok plan) none made)) plans (refl, tt)
    (until_bodies_ok (statement_with (insert into of body) length) database plans is).0

insert-stored : (of : SetType) (body : Tree) (plans : List Plan) (made : List (Plan × Stores)) → IsNullSetOf of.cell of.nulls.items
    → AllByRecursion (λ plan. IsFit of (grown_of plan)) plans → stores_of_plans (insert_store of) body plans ≡ Ok made → AllByRecursion (IsInserted of) made
insert-stored of body plans made nulls fits are =
    stores_of_plans-each (insert_store of) body (λ plan. IsFit of (grown_of plan)) (IsInserted of)
    (λ plan stores fit is. (
      fit,
      plan_stores-each (insert_store of) body plan (λ entry. IfSome entry.1 (AreInRange (atoms_of of.cell)))
          (λ p cell o within put. insert_store-fits of cell o nulls put) stores is,
    ))
    plans made fits are

insert-valid : (types : List SetType) (into : List ℕ) (of : SetType) (body : Tree) (length : ℕ) (database : Database) (plans : List Plan) (made : List (Plan × Stores))
    → AreTypes types → IsValidFor types database → type_in types (collection_of database into) ≡ Some of
    → until_bodies (statement_with (insert into of body) length) database ≡ Ok plans → stores_of_plans (insert_store of) body plans ≡ Ok made
    → IsValidFor types (insert_outcome into of database made).1
insert-valid types into of body length database plans made are valid type are_plans are_made =
    let (collection, is) = collection_in types database into of valid type in
    inserted-valid types into of database made are valid type
    (insert-stored of body plans made (type_fits types collection.set_type of are is.type).nulls (insert-fits of into body length database plans are_plans) are_made)

-- ---- an update

-- a plan of an update is one for the member of its row
abbrev pub HasUpdatePlan : SetType → (Member → Type 0) → Plan → Type 0
HasUpdatePlan of Q plan = (member : Member) × Q member × IsUpdatePlan of member plan

-- a row of one member gives a plan for it
planned_row : (source : CheckedSource) (axes : Option Axes) (target : Span) (body : Tree) (Q : Member → Type 0) → HasStaticAxes axes
    → ((member : Member) → Q member → IsArrayOf source.of member.array)
    → (row : ℕ × Row) (plan : Plan) → HasOne Q row.1 → update_plan source.of target body axes row ≡ Ok plan → HasUpdatePlan source.of Q plan
planned_row source axes target body Q static array row plan (member, one, q) made =
    (member, q, update_plan_ok source.of target body axes row.0 member plan static (array member q) (subst (λ r. update_plan source.of target body axes (row.0, r) ≡ Ok plan) one made))

-- what holds of each entry of the collection holds of the member of each plan
pub update-planned : (source : CheckedSource) (axes : Option Axes) (target : Span) (body : Tree) (condition : Condition) (length : ℕ) (database : Database)
    (plans : List Plan) (collection : Collection) (P : ℕ × Array → Type 0)
    → HasStaticAxes axes → ((entry : ℕ × Array) → P entry → IsArrayOf source.of entry.1) → collection_of database source.collection ≡ Some collection → AllByRecursion P collection.arrays
    → until_bodies (statement_with (update source axes target body condition) length) database ≡ Ok plans
    → AllByRecursion (HasUpdatePlan source.of (λ member. (member.of ≡ source.of) × P (member.oid, member.array))) plans
update-planned source axes target body condition length database plans collection P static array found all is =
    let Q : Member → Type 0 = λ member. (member.of ≡ source.of) × P (member.oid, member.array) in
    until_plans-each (statement_with (update source axes target body condition) length) database (HasOne Q) (HasUpdatePlan source.of Q)
    (planned_row source axes target body Q static (λ member q. array (member.oid, member.array) q.1)) plans
    (each_row database source collection P found all (asked_of condition))
    (until_bodies_ok (statement_with (update source axes target body condition) length) database plans is).0

-- what is stored is of the type, and what is left is valid
update-stored : (of : SetType) (next : ℕ) (body : Tree) (plans : List Plan) (made : List (Plan × Stores)) → IsNullSetOf of.cell of.nulls.items
    → AllByRecursion (HasUpdatePlan of (IsMemberIn of next)) plans → stores_of_plans (update_store of) body plans ≡ Ok made → AllByRecursion (IsUpdated of next) made
update-stored of next body plans made nulls planned are =
    stores_of_plans-each (update_store of) body (HasUpdatePlan of (IsMemberIn of next)) (IsUpdated of next)
    (λ plan stores h is. (
      h.0,
      h.1,
      h.2,
      plan_stores-each (update_store of) body plan (λ entry. IfSome entry.1 (AreInRange (atoms_of of.cell)))
          (λ p cell o within put. update_store-fits of cell o nulls put) stores is,
    ))
    plans made planned are

update-valid : (types : List SetType) (source : CheckedSource) (axes : Option Axes) (target : Span) (body : Tree) (condition : Condition) (length : ℕ)
    (database : Database) (plans : List Plan) (made : List (Plan × Stores)) → AreTypes types → IsValidFor types database
    → type_in types (collection_of database source.collection) ≡ Some source.of → HasStaticAxes axes
    → until_bodies (statement_with (update source axes target body condition) length) database ≡ Ok plans → stores_of_plans (update_store source.of) body plans ≡ Ok made
    → IsValidFor types (with_changed source.collection (λ collection. with_arrays collection (with_updated source.of collection.arrays made)) database)
update-valid types source axes target body condition length database plans made are valid type static are_plans are_made =
    let (collection, is) = collection_in types database source.collection source.of valid type in
    let arrays = collection-arrays types source.of collection is.over is.type in
    let fits = type_fits types collection.set_type source.of are is.type in
    let planned = update-planned source axes target body condition length database plans collection (IsEntryOf source.of collection.next) static (λ entry e. e.2)
    is.found arrays.each are_plans in
    changed-valid types source.collection source.of collection (λ c. with_arrays c (with_updated source.of c.arrays made)) database valid is
    (collection-from types source.of (with_arrays collection (with_updated source.of collection.arrays made)) is.type is.over.some_next
    (updated-arrays source.of collection.next collection.arrays made fits arrays (update-stored source.of collection.next body plans made fits.nulls planned are_made)))

-- ---- every form

-- what a request leaves is valid
form-valid : (types : List SetType) (wanted : List Lock) (request : Request) (size : ℕ) (database : Database) (plans : List Plan) (o : StatementOutcome)
    → AreTypes types → IsValidFor types database → IsCheckedOver types database wanted request
    → until_bodies (statement_with request size) database ≡ Ok plans → outcome_of_plans request plans database ≡ Ok o → IsValidFor types o.1
form-valid types wanted (select body sources condition) size database plans o are valid checked are_plans is =
    let (rows, found, last) = bind_ok (values_of_plans body plans) _ o is in
    ok_keeps (λ w. IsValidFor types w.1) (values rows, database) o last valid
form-valid types wanted (insert into of body) size database plans o are valid checked are_plans is =
    let (made, are_made, last) = bind_ok (stores_of_plans (insert_store of) body plans) _ o is in
    ok_keeps (λ w. IsValidFor types w.1) (insert_outcome into of database made) o last (insert-valid types into of body size database plans made are valid checked.1 are_plans are_made)
form-valid types wanted (delete source condition) size database plans o are valid checked are_plans is =
    let ids : List ℕ = flat_map (λ plan. row_identifiers plan.row) plans in
    ok_keeps (λ w. IsValidFor types w.1) (done (length plans), with_changed source.collection (λ collection. with_arrays collection (without_arrays collection.arrays ids)) database) o is
    (delete-valid types source.collection source.of ids database valid checked.1)
form-valid types wanted (update source axes target body condition) size database plans o are valid checked are_plans is =
    let (made, are_made, last) = bind_ok (stores_of_plans (update_store source.of) body plans) _ o is in
    ok_keeps (λ w. IsValidFor types w.1) (
      done (length plans),
      with_changed source.collection
          (λ collection. with_arrays collection (with_updated source.of collection.arrays made)) database,
    ) o last
    (update-valid types source axes target body condition size database plans made are valid checked.1 checked.2 are_plans are_made)
form-valid types wanted (create name place) size database plans o are valid checked are_plans is =
    ok_keeps (λ w. IsValidFor types w.1) (done 0, with_collection name (empty_collection place) database) o is (create-valid types name place checked.1.0 database valid checked.1.1)
form-valid types wanted (drop name) size database plans o are valid checked are_plans is =
    ok_keeps (λ w. IsValidFor types w.1) (done 0, without_collection name database) o is (without_collection-valid types name database valid)

-- ---- statements and runs

-- what each outcome leaves, and the database itself, are all that there may be
pub each_outcome : (P : Database → Type 0) (database : Database) (r : Result StatementOutcome Reply) → P database → ((o : StatementOutcome) → r ≡ Ok o → P o.1) → P (database_in database r)
each_outcome P database (Ok o) before after = after o refl
each_outcome P database (Err reply) before after = before

-- and that of a check
pub each_check : (P : Database → Type 0) (database : Database) (r : Result Checked CheckMisfit) → P database
    → ((checked : Checked) → r ≡ Ok checked → P (effect_of_checked (statement_tree_of checked) database)) → P (effect_after_check r database)
each_check P database (Ok checked) before after = after checked refl
each_check P database (Err fault) before after = before

-- the effect of a statement on a valid database is valid
pub left_by-valid : (types : List SetType) (statement : Statement) (database : Database) → AreTypes types → IsValidFor types database → IsValidFor types (effect_of types statement database)
left_by-valid types statement database are valid =
    either_way (IsValidFor types) (is_too_long (first_list statement)) database (effect_after_check (checked_over types statement database) database) (λ long. valid) (λ short.
    each_check (IsValidFor types) database (checked_over types statement database) valid (λ checked is.
    each_outcome (IsValidFor types) database (outcome_of (statement_tree_of checked) database) valid (λ o ends.
    let (plans, are_plans, last) = bind_ok (until_bodies (statement_tree_of checked) database) _ o ends in
    form-valid types (wanted_at_first statement.form) (statement_tree_of checked).request checked.length database plans o are valid
    (statement_checked types database statement checked is) are_plans last)))

-- and so is that of a run
pub machine-valid : (types : List SetType) (statements : List Statement) (database : Database) → AreTypes types → IsValidFor types database
    → IsValidFor types (machine types statements database).1
machine-valid types [] database are valid = valid
machine-valid types (statement ∷ statements) database are valid =
    machine-valid types statements (effect_of types statement database) are (left_by-valid types statement database are valid)
