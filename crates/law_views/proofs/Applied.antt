-- A statement's effect is what it writes, written to the database.
use Rattle.std.proofs.Common.{◌≡◌, ℕ, List, [], ◌∷◌, ◌++◌, map, flat_map, length, IfSome, Option, Some, None, Result, Ok, Err, refl, sym, ap, ◌∙◌, subst}
use Rattle.std.specs.List.{AllByRecursion}
use Rattle.std.specs.List.Sorted.{IsStrictlySortedBy}
use Rattle.std.specs.Map.{keys_of}
use Rattle.std.specs.Ordering.{nat_cmp}
use Rattle.ras_syntax.specs.declared.statement.Statement.{Statement}
use Rattle.ras_syntax.specs.declared.types.SetType.{SetType}
use Rattle.ras_syntax.specs.declared.typed.Checked.{Checked}
use Rattle.ras_syntax.specs.declared.typed.CheckedSource.{CheckedSource}
use Rattle.spec_expressions.specs.Database.{Array, Collection as CollectionOf, Database, collection_of}
use Rattle.spec_expressions.specs.Tree.{Condition, Tree}
use Rattle.spec_statements.specs.Effects.{StatementOutcome, Stores, with_collection, database_in, effect_of_checked, grown_of, insert_outcome, insert_store, outcome_of_plans, row_identifiers, stores_of_plans, update_store, values_of_plans, with_arrays, with_changed_if_any, with_row, with_updated, without_arrays, with_changed}
use Rattle.spec_statements.specs.Locks.{Lock}
use Rattle.spec_statements.specs.Machine.{checked_over, wanted_at_first}
use Rattle.spec_statements.specs.Phases.{until_bodies}
use Rattle.spec_statements.specs.Plans.{Plan}
use Rattle.spec_statements.specs.Reply.{Reply, RowReply, done, values}
use Rattle.ras_cells.specs.Outcomes.{◌>>=◌}
use Rattle.spec_statements.specs.Statement.{Request, StatementTree, statement_tree_of, select, insert, delete, update, create, drop}
use Rattle.spec_statements.specs.Validity.{IsCollectionOver, IsValidFor}
use Rattle.law_effects.proofs.Checked.{IsCheckedOver, statement_checked}
use Rattle.law_effects.proofs.Shown.{IsRewritten, found_entry}
use Rattle.law_effects.proofs.Validity.{found_collection}
use Rattle.law_locks.proofs.Effects.{update-rewrites}
use Rattle.spec_views.specs.Writings.{RowWriting, applied, applied_in, row_writing, with_rewritten, with_row_writing, with_writings, writings_of_plans, written_by}

same_identifiers : (plans : List Plan) → flat_map (λ plan. row_identifiers plan.row) plans ≡ flat_map (λ (w : RowWriting). w.identifiers) (map (λ plan. row_writing (plan, [])) plans)
same_identifiers [] = refl
same_identifiers (plan ∷ plans) = ap (λ ids. row_identifiers plan.row ++ ids) (same_identifiers plans)

inserted : (into : List ℕ) (of : SetType) (body : Tree) (database : Database) (made : List (Plan × Stores))
    → (insert_outcome into of database made).1 ≡ applied (insert into of body) (map row_writing made) database
inserted into of body database [] = refl
inserted into of body database (one ∷ others) = refl

updated : (of : SetType) (c : CollectionOf) (arrays : List (ℕ × Array)) (made : List (Plan × Stores)) → IsStrictlySortedBy nat_cmp (keys_of c.arrays)
    → AllByRecursion (IsRewritten c.arrays) made → with_updated of arrays made ≡ with_writings of c arrays (map row_writing made)
updated of c arrays [] sorted all = refl
updated of c arrays (one ∷ others) sorted all =
    let (member, row_is, has) = all.0 in
    let here : with_row of arrays one.0.row (grown_of one.0) one.1 ≡ with_row_writing of c (row_identifiers one.0.row) (row_writing one) arrays =
    subst (λ row. with_row of arrays row (grown_of one.0) one.1 ≡ with_row_writing of c (row_identifiers row) (row_writing one) arrays) (sym row_is)
    (sym (ap (λ o. with_rewritten of o member.oid (row_writing one) arrays) (found_entry c.arrays member.oid member.array sorted has))) in
    ap (λ a. with_updated of a others) here ∙ updated of c (with_row_writing of c (row_identifiers one.0.row) (row_writing one) arrays) others sorted all.1

abbrev EndsAsWritten : Request → Database → Result (List Plan) Reply → Type 0
EndsAsWritten request database plans =
    database_in database (plans >>= λ plans. outcome_of_plans request plans database) ≡ applied_in request (plans >>= λ plans. writings_of_plans request plans) database

selected : (body : Tree) (sources : List CheckedSource) (condition : Condition) (database : Database) (r : Result (List RowReply) Reply)
    → database_in database (r >>= λ rows. Ok (values rows, database)) ≡ applied_in (select body sources condition) (r >>= λ rows. Ok []) database
selected body sources condition database (Ok rows) = refl
selected body sources condition database (Err reply) = refl

stored : (request : Request) (database : Database) (r : Result (List (Plan × Stores)) Reply) (f : List (Plan × Stores) → StatementOutcome)
    → ((made : List (Plan × Stores)) → r ≡ Ok made → (f made).1 ≡ applied request (map row_writing made) database)
    → database_in database (r >>= λ made. Ok (f made)) ≡ applied_in request (r >>= λ made. Ok (map row_writing made)) database
stored request database (Ok made) f same = same made refl
stored request database (Err reply) f same = refl

changed : (name : List ℕ) (f g : CollectionOf → CollectionOf) (o : Option CollectionOf) (database : Database) → ((c : CollectionOf) → o ≡ Some c → f c ≡ g c)
    → with_changed_if_any name f o database ≡ with_changed_if_any name g o database
changed name f g None database same = refl
changed name f g (Some c) database same = ap (λ x. with_collection name x database) (same c refl)

module _ (types : List SetType) (database : Database) (valid : IsValidFor types database) (wanted : List Lock) (size : ℕ) where
  ends : (request : Request) (plans : List Plan) → IsCheckedOver types database wanted request
      → (let tree : StatementTree = record { request = request; length = size } in until_bodies tree database ≡ Ok plans) → EndsAsWritten request database (Ok plans)
  ends (select body sources condition) plans checked are = selected body sources condition database (values_of_plans body plans)
  ends (insert into of body) plans checked are =
      stored (insert into of body) database (stores_of_plans (insert_store of) body plans) (insert_outcome into of database) (λ made is. inserted into of body database made)
  ends (delete source condition) plans checked are =
      ap (λ ids. with_changed source.collection (λ c. with_arrays c (without_arrays c.arrays ids)) database) (same_identifiers plans)
  ends (update source axes target body condition) plans checked are =
      stored (update source axes target body condition) database (stores_of_plans (update_store source.of) body plans)
      (λ made. (done (length plans), with_changed source.collection (λ c. with_arrays c (with_updated source.of c.arrays made)) database))
      (λ made is. changed source.collection (λ c. with_arrays c (with_updated source.of c.arrays made))
      (λ c. with_arrays c (with_writings source.of c c.arrays (map row_writing made))) (collection_of database source.collection) database
      (λ c found. ap (with_arrays c) (updated source.of c c.arrays made (in_order c found)
      (update-rewrites types source axes target body condition size database plans made wanted valid checked are is c found))))
    where
      in_order : (c : CollectionOf) → collection_of database source.collection ≡ Some c → IsStrictlySortedBy nat_cmp (keys_of c.arrays)
      in_order c found = (let over : IfSome (Some c) (IsCollectionOver types) = subst (λ o. IfSome o (IsCollectionOver types)) found
          (found_collection types database source.collection valid) in over.ordered)
  ends (create name of) plans checked are = refl
  ends (drop name) plans checked are = refl

  ends_all : (request : Request) (r : Result (List Plan) Reply) → (let tree : StatementTree = record { request = request; length = size } in until_bodies tree database ≡ r)
      → IsCheckedOver types database wanted request → EndsAsWritten request database r
  ends_all request (Ok plans) is checked = ends request plans checked is
  ends_all request (Err reply) is checked = refl

pub effect_as_written : (types : List SetType) (statement : Statement) (database : Database) (checked : Checked) → IsValidFor types database
    → checked_over types statement database ≡ Ok checked
    → effect_of_checked (statement_tree_of checked) database
    ≡ applied_in (statement_tree_of checked).request (written_by (statement_tree_of checked) database) database
effect_as_written types statement database checked valid is =
    ends_all types database valid (wanted_at_first statement.form) (statement_tree_of checked).length (statement_tree_of checked).request
    (until_bodies (statement_tree_of checked) database) refl (statement_checked types database statement checked is)
