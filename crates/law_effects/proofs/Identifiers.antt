-- How far a statement and a run raise the identifiers that collections give out next.
use Rattle.std.proofs.Common.{◌≡◌, ◌+◌, ℕ, ◌≤◌, List, [], ◌∷◌, length, flat_map, Option, Some, None, IfSome, Ok, subst, arith}
use Rattle.std.specs.List.{AllByRecursion}
use Rattle.std.specs.Ordering.{is_eq, nat_cmp}
use Rattle.std.specs.Cmp.Lexicographic.{slice_cmp}
use Rattle.std.proofs.lemmas.List.Elements.{All-from_recursion, recursion_from_All}
use Rattle.std.proofs.lemmas.Map.Lookups.{exact_bytes}
use Rattle.ras_syntax.specs.declared.statement.Statement.{Statement}
use Rattle.ras_syntax.specs.declared.types.SetType.{SetType}
use Rattle.spec_expressions.specs.Database.{Collection, Database, collection_of}
use Rattle.spec_statements.specs.Effects.{StatementOutcome, Stores, with_changed, with_changed_if_any, empty_collection, outcome_of_plans, grown_of, insert_store, insert_outcome, no_array, outcome_of, row_identifiers, stores_of_plans, update_store, values_of_plans, with_arrays, with_collection, with_inserted, with_updated, without_arrays, without_collection, written_array}
use Rattle.spec_statements.specs.Plans.{Plan}
use Rattle.spec_statements.specs.Reply.{done, values}
use Rattle.spec_statements.specs.Phases.{until_bodies}
use Rattle.spec_statements.specs.Machine.{checked_over, effect_after_check, first_list, is_too_long, effect_of, machine}
use Rattle.spec_statements.specs.Statement.{Request, statement_tree_of, select, insert, delete, update, create, drop}
use Rattle.spec_statements.specs.Validity.{HasIdentifiersUpTo}
use Rattle.law_shapes.proofs.Outcomes.{bind_ok}
use Rattle.law_lists.proofs.Each.{each_weaker}
use Rattle.law_lists.proofs.Choices.{either_way, ok_keeps}
use Rattle.law_lists.proofs.Maps.{each-insert_entry, each-remove_entry}
use Rattle.law_effects.proofs.Valid.{each_check, each_outcome}
use Rattle.law_effects.proofs.Written.{found_each}

-- a collection's next identifier is within the bound
abbrev IsUpTo : ℕ → Collection → Type 0
IsUpTo bound collection = collection.next ≤ bound

-- the same of each entry of a database, by recursion
abbrev AreUpTo : ℕ → Database → Type 0
AreUpTo bound database = AllByRecursion (λ entry. IsUpTo bound entry.1) database

-- a database that nobody changed
same-up_to : (bound : ℕ) (database : Database) → AreUpTo bound database → AreUpTo (bound + 1) database
same-up_to bound database are =
    each_weaker (λ entry. IsUpTo bound entry.1) (λ entry. IsUpTo (bound + 1) entry.1) (λ entry small. omega (arith, small)) database are

-- a collection that is put into a database
with_collection-up_to : (bound : ℕ) (name : List ℕ) (collection : Collection) (database : Database) → AreUpTo bound database → IsUpTo (bound + 1) collection
    → AreUpTo (bound + 1) (with_collection name collection database)
with_collection-up_to bound name collection database are small =
    each-insert_entry (slice_cmp nat_cmp) exact_bytes name collection (λ entry. IsUpTo (bound + 1) entry.1) database (same-up_to bound database are) small

-- a change of one collection that raises its next identifier by at most one
changed-up_to : (bound : ℕ) (name : List ℕ) (change : Collection → Collection) (database : Database)
    → ((collection : Collection) → IsUpTo bound collection → IsUpTo (bound + 1) (change collection)) → AreUpTo bound database → AreUpTo (bound + 1) (with_changed name change database)
changed-up_to bound name change database raised are =
    at (collection_of database name) (found_each (IsUpTo bound) (λ other. is_eq (slice_cmp nat_cmp name other)) database are)
  where
    at : (found : Option Collection) → IfSome found (IsUpTo bound) → AreUpTo (bound + 1) (with_changed_if_any name change found database)
    at None small = same-up_to bound database are
    at (Some collection) small = with_collection-up_to bound name (change collection) database are (raised collection small)

-- what an insert leaves
inserted-up_to : (bound : ℕ) (into : List ℕ) (of : SetType) (database : Database) (made : List (Plan × Stores)) → AreUpTo bound database
    → AreUpTo (bound + 1) (insert_outcome into of database made).1
inserted-up_to bound into of database [] are = same-up_to bound database are
inserted-up_to bound into of database (one ∷ others) are =
    changed-up_to bound into (λ collection. with_inserted collection (written_array of no_array (grown_of one.0) one.1)) database (λ collection small. omega (arith, small)) are

-- what a request leaves
form-up_to : (bound : ℕ) (request : Request) (database : Database) (plans : List Plan) (o : StatementOutcome) → AreUpTo bound database
    → outcome_of_plans request plans database ≡ Ok o → AreUpTo (bound + 1) o.1
form-up_to bound (select body sources condition) database plans o are is =
    let (rows, found, last) = bind_ok (values_of_plans body plans) _ o is in
    ok_keeps (λ w. AreUpTo (bound + 1) w.1) (values rows, database) o last (same-up_to bound database are)
form-up_to bound (insert into of body) database plans o are is =
    let (made, are_made, last) = bind_ok (stores_of_plans (insert_store of) body plans) _ o is in
    ok_keeps (λ w. AreUpTo (bound + 1) w.1) (insert_outcome into of database made) o last (inserted-up_to bound into of database made are)
form-up_to bound (delete source condition) database plans o are is =
    let change : Collection → Collection = λ collection. with_arrays collection (without_arrays collection.arrays (flat_map (λ plan. row_identifiers plan.row) plans)) in
    ok_keeps (λ w. AreUpTo (bound + 1) w.1) (done (length plans), with_changed source.collection change database) o is
    (changed-up_to bound source.collection change database (λ collection small. omega (arith, small)) are)
form-up_to bound (update source axes target body condition) database plans o are is =
    let (made, are_made, last) = bind_ok (stores_of_plans (update_store source.of) body plans) _ o is in
    let change : Collection → Collection = λ collection. with_arrays collection (with_updated source.of collection.arrays made) in
    ok_keeps (λ w. AreUpTo (bound + 1) w.1) (done (length plans), with_changed source.collection change database) o last
    (changed-up_to bound source.collection change database (λ collection small. omega (arith, small)) are)
form-up_to bound (create name place) database plans o are is =
    ok_keeps (λ w. AreUpTo (bound + 1) w.1) (done 0, with_collection name (empty_collection place) database) o is
    (with_collection-up_to bound name (empty_collection place) database are (omega arith))
form-up_to bound (drop name) database plans o are is =
    ok_keeps (λ w. AreUpTo (bound + 1) w.1) (done 0, without_collection name database) o is
    (each-remove_entry (λ other. is_eq (slice_cmp nat_cmp name other)) (λ entry. IsUpTo (bound + 1) entry.1) database (same-up_to bound database are))

-- what a statement leaves
statement-up_to : (types : List SetType) (statement : Statement) (database : Database) (bound : ℕ) → AreUpTo bound database → AreUpTo (bound + 1) (effect_of types statement database)
statement-up_to types statement database bound are =
    let same : AreUpTo (bound + 1) database = same-up_to bound database are in
    either_way (AreUpTo (bound + 1)) (is_too_long (first_list statement)) database (effect_after_check (checked_over types statement database) database) (λ long. same) (λ short.
    each_check (AreUpTo (bound + 1)) database (checked_over types statement database) same (λ checked is.
    each_outcome (AreUpTo (bound + 1)) database (outcome_of (statement_tree_of checked) database) same (λ o ends.
    let (plans, are_plans, last) = bind_ok (until_bodies (statement_tree_of checked) database) _ o ends in
    form-up_to bound (statement_tree_of checked).request database plans o are last)))

pub left_by-up_to : (types : List SetType) (statement : Statement) (database : Database) (bound : ℕ) → HasIdentifiersUpTo bound database
    → HasIdentifiersUpTo (bound + 1) (effect_of types statement database)
left_by-up_to types statement database bound are =
    All-from_recursion (λ entry. IsUpTo (bound + 1) entry.1) (effect_of types statement database)
    (statement-up_to types statement database bound (recursion_from_All (λ entry. IsUpTo bound entry.1) database are))

-- what a run leaves
pub machine-up_to : (types : List SetType) (statements : List Statement) (database : Database) (bound : ℕ) → HasIdentifiersUpTo bound database
    → HasIdentifiersUpTo (bound + length statements) (machine types statements database).1
machine-up_to types [] database bound are =
    let e : bound ≡ bound + 0 = omega arith in
    subst (λ b. HasIdentifiersUpTo b database) e are
machine-up_to types (statement ∷ statements) database bound are =
    let e : bound + 1 + length statements ≡ bound + length (statement ∷ statements) = omega arith in
    let left : Database = effect_of types statement database in
    subst (λ b. HasIdentifiersUpTo b (machine types statements left).1) e
    (machine-up_to types statements left (bound + 1) (left_by-up_to types statement database bound are))
