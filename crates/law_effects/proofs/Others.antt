-- A statement leaves what others share: it changes only what it has exclusively.
use Rattle.std.proofs.Common.{◌≡◌, ℕ, List, [], ◌∷◌, length, flat_map, Contains, Ok, refl, sym, ap, ◌∙◌, subst}
use Rattle.ras_cells.specs.Outcomes.{◌>>=◌}
use Rattle.ras_domain.specs.declared.lock.LockName.{LockName}
use Rattle.ras_domain.specs.declared.lock.LockName.TheVariants.{Collection}
use Rattle.ras_domain.specs.declared.lock.Mode.TheVariants.{Exclusive}
use Rattle.ras_syntax.specs.declared.types.SetType.{SetType}
use Rattle.spec_expressions.specs.Database.{Collection as CollectionOf, Database, collection_of}
use Rattle.spec_expressions.specs.SetTypes.{AreTypes}
use Rattle.spec_statements.specs.Agree.{Agrees}
use Rattle.spec_statements.specs.Effects.{StatementOutcome, Stores, with_changed, empty_collection, outcome_of_plans, grown_of, insert_store, insert_outcome, outcome_of, row_identifiers, stores_of_plans, update_store, values_of_plans, with_arrays, with_collection, with_inserted, with_updated, without_arrays, without_collection, written_array, no_array}
use Rattle.spec_statements.specs.Plans.{Plan}
use Rattle.spec_statements.specs.Reply.{done, values}
use Rattle.spec_statements.specs.Limits.{limited_locks}
use Rattle.spec_statements.specs.Phases.{list_or_none, needs_4, phase_4_list, until_bodies, until_plans}
use Rattle.spec_statements.specs.Locks.{Lock}
use Rattle.spec_statements.specs.Machine.{checked_over, effect_after_check, first_list, is_too_long, wanted_at_first}
use Rattle.spec_statements.specs.ReachLaw.{HasParents, LawOfOthers, Names}
use Rattle.spec_statements.specs.Statement.{Request, StatementTree, statement_tree_of, select, insert, delete, update, create, drop}
use Rattle.spec_statements.specs.Validity.{IsValidFor}
use Rattle.law_shapes.proofs.Outcomes.{bind_ok}
use Rattle.law_lists.proofs.Choices.{either_way, ok_keeps}
use Rattle.law_effects.proofs.Checked.{IsCheckedOver, statement_checked}
use Rattle.law_effects.proofs.LockNames.{exclusive_is_granted}
use Rattle.law_effects.proofs.Phases.{first_is, later_is}
use Rattle.law_effects.proofs.Rows.{until_bodies_ok}
use Rattle.law_effects.proofs.Valid.{each_check, each_outcome}
use Rattle.law_effects.proofs.Validity.{collection_in as its_collection, type_fits}
use Rattle.law_effects.proofs.Untouched.{IsFree, changed_in-other, free_from, others_stay, with_collection-other, without_collection-other}
use Rattle.law_effects.proofs.Updated.{each_done, update_stays}

-- ---- every form

-- the premises on the locks that stay, for a statement whose check was passed
record IsApart (wanted phase_4 list : List Lock) : Type 0 where
  parents : HasParents list
  apart_first : (name : LockName) → Names list name → Contains wanted (name, Exclusive) → ⊥
  apart_last : (name : LockName) → Names list name → Contains phase_4 (name, Exclusive) → ⊥

-- a collection that is wanted exclusively at first is free
wanted_free : (wanted phase_4 list : List Lock) (collection : List ℕ) → IsApart wanted phase_4 list → Contains wanted (Collection collection, Exclusive) → IsFree list collection
wanted_free wanted phase_4 list collection apart has =
    free_from list collection apart.parents (λ named. apart.apart_first (Collection collection) named has)

-- an insert changes no other collection
inserted-other : (into : List ℕ) (of : SetType) (database : Database) (made : List (Plan × Stores)) (m : List ℕ) → (m ≡ into → ⊥)
    → collection_of (insert_outcome into of database made).1 m ≡ collection_of database m
inserted-other into of database [] m unlike = refl
inserted-other into of database (one ∷ others) m unlike =
    changed_in-other into (λ collection. with_inserted collection (written_array of no_array (grown_of one.0) one.1)) (collection_of database into) database m unlike

-- what a request leaves shows the same
form_stays : (types : List SetType) (list wanted : List Lock) (request : Request) (size : ℕ) (database : Database) (plans : List Plan) (o : StatementOutcome)
    → AreTypes types → IsValidFor types database → IsCheckedOver types database wanted request
    → (let tree : StatementTree = record { request = request; length = size } in IsApart wanted (phase_4_list tree plans) list)
    → (let tree : StatementTree = record { request = request; length = size } in until_bodies tree database ≡ Ok plans) → outcome_of_plans request plans database ≡ Ok o
    → Agrees types list o.1 database
form_stays types list wanted (select body sources condition) size database plans o are valid checked apart are_plans is =
    let (rows, found, last) = bind_ok (values_of_plans body plans) _ o is in
    ok_keeps (λ w. Agrees types list w.1 database) (values rows, database) o last (λ name mode has. refl)
form_stays types list wanted (insert into of body) size database plans o are valid checked apart are_plans is =
    let (made, are_made, last) = bind_ok (stores_of_plans (insert_store of) body plans) _ o is in
    ok_keeps (λ w. Agrees types list w.1 database) (insert_outcome into of database made) o last
    (others_stay types list (insert_outcome into of database made).1 database into (wanted_free wanted _ list into apart checked.0) (inserted-other into of database made))
form_stays types list wanted (delete source condition) size database plans o are valid checked apart are_plans is =
    let change : CollectionOf → CollectionOf = λ collection. with_arrays collection (without_arrays collection.arrays (flat_map (λ plan. row_identifiers plan.row) plans)) in
    ok_keeps (λ w. Agrees types list w.1 database) (done (length plans), with_changed source.collection change database) o is
    (others_stay types list (with_changed source.collection change database) database source.collection (wanted_free wanted _ list source.collection apart checked.0)
    (changed_in-other source.collection change (collection_of database source.collection) database))
form_stays types list wanted (update source axes target body condition) size database plans o are valid checked apart are_plans is =
    let (made, are_made, last) = bind_ok (stores_of_plans (update_store source.of) body plans) _ o is in
    let (collection, found) = its_collection types database source.collection source.of valid checked.1 in
    let type = type_fits types collection.set_type source.of are found.type in
    ok_keeps (λ w. Agrees types list w.1 database) (
      done (length plans),
      with_changed source.collection
          (λ collection. with_arrays collection (with_updated source.of collection.arrays made)) database,
    ) o last
    (update_stays types source axes target body condition size database plans made collection found type list apart.parents apart.apart_last
    (each_done types source axes target body condition size database plans made collection found type checked.2 are_plans are_made))
form_stays types list wanted (create name place) size database plans o are valid checked apart are_plans is =
    ok_keeps (λ w. Agrees types list w.1 database) (done 0, with_collection name (empty_collection place) database) o is
    (others_stay types list (with_collection name (empty_collection place) database) database name (wanted_free wanted _ list name apart checked.0)
    (with_collection-other name (empty_collection place) database))
form_stays types list wanted (drop name) size database plans o are valid checked apart are_plans is =
    ok_keeps (λ w. Agrees types list w.1 database) (done 0, without_collection name database) o is
    (others_stay types list (without_collection name database) database name (wanted_free wanted _ list name apart checked) (without_collection-other name database))

-- the list of the last phase, where it was granted
needs_4-is : (statement : StatementTree) (database : Database) (plans : List Plan) → until_bodies statement database ≡ Ok plans → phase_4_list statement plans ≡ needs_4 statement database
needs_4-is statement database plans is =
    let (all_plans, asked) = until_bodies_ok statement database plans is in
    let e : (until_plans statement database >>= λ plans. limited_locks statement (phase_4_list statement plans)) ≡ Ok (phase_4_list statement plans) = subst
    (λ r. (r >>= λ plans. limited_locks statement (phase_4_list statement plans)) ≡ Ok (phase_4_list statement plans)) (sym all_plans) asked in
    sym (ap list_or_none e)

-- the law
pub others_share : LawOfOthers
others_share types statement database list are valid parents apart =
    let P : Database → Type 0 = λ left. Agrees types list left database in
    let same : P database = λ name mode has. refl in
    either_way P (is_too_long (first_list statement)) database (effect_after_check (checked_over types statement database) database) (λ long. same) (λ short.
    each_check P database (checked_over types statement database) same (λ checked is.
    each_outcome P database (outcome_of (statement_tree_of checked) database) same (λ o ends.
    let tree : StatementTree = statement_tree_of checked in
    let (plans, are_plans, last) = bind_ok (until_bodies tree database) _ o ends in
    form_stays types list (wanted_at_first statement.form) tree.request checked.length database plans o are valid (statement_checked types database statement checked is)
    (record {
      parents = parents;
      apart_first = λ name named has. apart 1 name named (subst (λ l. Contains {X = Lock} l (name, Exclusive)) (sym (first_is types statement database short))
          (exclusive_is_granted (wanted_at_first statement.form) name has));
      apart_last = λ name named has. apart 4 name named (subst (λ l. Contains {X = Lock} l (name, Exclusive)) (needs_4-is tree database plans are_plans
          ∙ sym (later_is needs_4 types statement database checked short is)) has);
    }) are_plans last)))
