-- Where a statement has alike plans over two databases that agree, and stores the same, it has the same answer over both and
-- leaves databases that agree.
use Rattle.std.proofs.Common.{◌≡◌, ℕ, Bool, true, false, if◌then◌else◌, List, [], ◌∷◌, length, flat_map, Contains, Option, Some, None, Result, Ok, Err, refl, sym, ap, ◌∙◌, subst}
use Rattle.std.specs.List.{AllByRecursion}
use Rattle.ras_domain.specs.declared.lock.LockName.TheVariants.{Collection}
use Rattle.ras_domain.specs.declared.lock.Mode.TheVariants.{Shared, Exclusive}
use Rattle.ras_syntax.specs.declared.span.Span.{Span}
use Rattle.ras_syntax.specs.declared.statement.Statement.{Statement}
use Rattle.ras_syntax.specs.declared.faults.ShapeFault.TheVariants.{TooManyLocks}
use Rattle.ras_syntax.specs.declared.types.SetType.{SetType}
use Rattle.ras_syntax.specs.declared.typed.Checked.{Checked}
use Rattle.ras_syntax.specs.declared.typed.CheckedSource.{CheckedSource}
use Rattle.spec_expressions.specs.Check.{CheckMisfit}
use Rattle.spec_expressions.specs.Database.{Array, Collection as CollectionOf, Database, Member, collection_of}
use Rattle.spec_expressions.specs.Tree.{Axes, Condition, Tree}
use Rattle.spec_statements.specs.Agree.{Agrees}
use Rattle.spec_statements.specs.Effects.{StatementOutcome, Stores, with_changed, database_in, outcome_of_plans, insert_store, insert_outcome, next_of, outcome_of, reply_in, row_identifiers, stores_of_plans, update_store, values_of_plans, with_arrays, with_updated, without_arrays}
use Rattle.spec_statements.specs.Plans.{Plan}
use Rattle.spec_statements.specs.Reply.{Reply, done, misfit, values}
use Rattle.spec_statements.specs.Phases.{until_bodies}
use Rattle.spec_statements.specs.Locks.{Lock, lock_list}
use Rattle.spec_statements.specs.Machine.{checked_over, effect_after_check, first_list, is_too_long, effect_of, needs_of, reply_after_check, reply_of, wanted_at_first}
use Rattle.spec_statements.specs.ReachLaw.{AreNamedIn, Names}
use Rattle.spec_statements.specs.Statement.{Request, StatementTree, statement_tree_of, select, insert, delete, update, create, drop}
use Rattle.spec_statements.specs.Validity.{IsArrayOf, IsValidFor}
use Rattle.law_lists.proofs.Each.{each_weaker, each_contained, each_itself}
use Rattle.law_effects.proofs.Checked.{IsCheckedOver, statement_checked}
use Rattle.law_effects.proofs.LockNames.{asked_is_named}
use Rattle.law_effects.proofs.Phases.{first_is}
use Rattle.law_effects.proofs.Shown.{IsRewritten}
use Rattle.law_effects.proofs.Stores.{stores_of_plans-each}
use Rattle.law_effects.proofs.Valid.{HasUpdatePlan, update-planned}
use Rattle.law_effects.proofs.Validity.{IsEntryOf, collection-arrays, collection_in as its_collection}
use Rattle.law_locks.specs.Plans.{AreAlikeMade, AreAlikePlans}
use Rattle.law_locks.proofs.Collections.{AreAlikeCollections, alike_collections}
use Rattle.law_locks.proofs.EffectsChanges.{all_identifiers-same, create-agree, delete-agree, drop-agree, insert-agree, update-agree}
use Rattle.law_locks.proofs.Sides.{Alike, Alike-bind, Alike-same}

-- ---- what the last step takes from the plans

-- the collection that a request changes, and doesn't make or drop, is named
abbrev pub NamesChanged : List Lock → Request → Type 0
NamesChanged list (select body sources condition) = Unit {0}
NamesChanged list (insert into of body) = Names list (Collection into)
NamesChanged list (delete source condition) = Names list (Collection source.collection)
NamesChanged list (update source axes target body condition) = Names list (Collection source.collection)
NamesChanged list (create name of) = Unit {0}
NamesChanged list (drop name) = Unit {0}

-- alike plans give the same values, or store the same
abbrev pub AreDoneAlike : Request → List Plan → List Plan → Type 0
AreDoneAlike (select body sources condition) plans others = values_of_plans body plans ≡ values_of_plans body others
AreDoneAlike (insert into of body) plans others = Alike AreAlikeMade (stores_of_plans (insert_store of) body plans) (stores_of_plans (insert_store of) body others)
AreDoneAlike (delete source condition) plans others = Unit {0}
AreDoneAlike (update source axes target body condition) plans others =
    Alike AreAlikeMade (stores_of_plans (update_store source.of) body plans) (stores_of_plans (update_store source.of) body others)
AreDoneAlike (create name of) plans others = Unit {0}
AreDoneAlike (drop name) plans others = Unit {0}

-- the same reply, and databases that agree
abbrev pub EndAlike : List SetType → List Lock → Reply → Database → Reply → Database → Type 0
EndAlike types list reply left other_reply also_left = (reply ≡ other_reply) × Agrees types list left also_left

abbrev pub AgreeAfter : List SetType → List Lock → StatementOutcome → StatementOutcome → Type 0
AgreeAfter types list a b = EndAlike types list a.0 a.1 b.0 b.1

-- ---- an update rewrites what stood in the collection

pub update-rewrites : (types : List SetType) (source : CheckedSource) (axes : Option Axes) (target : Span) (body : Tree) (condition : Condition) (size : ℕ)
    (database : Database) (plans : List Plan) (made : List (Plan × Stores)) (wanted : List Lock)
    → IsValidFor types database → IsCheckedOver types database wanted (update source axes target body condition)
    → (let tree : StatementTree = record { request = update source axes target body condition; length = size } in until_bodies tree database ≡ Ok plans)
    → stores_of_plans (update_store source.of) body plans ≡ Ok made
    → (collection : CollectionOf) → collection_of database source.collection ≡ Some collection → AllByRecursion (IsRewritten collection.arrays) made
update-rewrites types source axes target body condition size database plans made wanted valid checked are_plans are_made collection found =
    let (there, is) = its_collection types database source.collection source.of valid checked.1 in
    let same : there ≡ collection = let e : Some there ≡ Some collection = sym is.found ∙ found in cc in
    let P : ℕ × Array → Type 0 = λ entry. Contains there.arrays entry × IsArrayOf source.of entry.1 in
    let Q : Member → Type 0 = λ member. (member.of ≡ source.of) × P (member.oid, member.array) in
    let each = (collection-arrays types source.of there is.over is.type).each in
    let entries : AllByRecursion P there.arrays =
    each_weaker (Contains there.arrays) P (λ entry has. (has, (each_contained (IsEntryOf source.of there.next) there.arrays entry each has).2)) there.arrays (each_itself there.arrays) in
    subst (λ (c : CollectionOf). AllByRecursion (IsRewritten c.arrays) made) same
    (stores_of_plans-each (update_store source.of) body (HasUpdatePlan source.of Q) (IsRewritten there.arrays) (λ plan stores h stored. (h.0, h.2.row_is, h.1.1.0)) plans made
    (update-planned source axes target body condition size database plans there P checked.2 (λ entry p. p.1) is.found entries are_plans) are_made)

-- ---- the last step

-- a delete and an update answer the number of plans, an insert the identifier that it gave out
length-alike : (plans others : List Plan) → AreAlikePlans plans others → length plans ≡ length others
length-alike [] [] alike = refl
length-alike [] (y ∷ ys) alike = absurd alike
length-alike (x ∷ xs) [] alike = absurd alike
length-alike (x ∷ xs) (y ∷ ys) alike = ap ℕ.suc (length-alike xs ys alike.1)

next-same : (o p : Option CollectionOf) → AreAlikeCollections o p → next_of o ≡ next_of p
next-same None None both = refl
next-same None (Some d) both = absurd both
next-same (Some c) None both = absurd both
next-same (Some c) (Some d) both = both.next

module _ (types : List SetType) (list : List Lock) (one other : Database) (agree : Agrees types list one other) where
  inserted_agree : (into : List ℕ) (of : SetType) (made others : List (Plan × Stores)) → Names list (Collection into) → AreAlikeMade made others
      → AgreeAfter types list (insert_outcome into of one made) (insert_outcome into of other others)
  inserted_agree into of made others named alike = (reply made others alike, insert-agree types list one other agree into of made others named alike)
    where
      reply : (made others : List (Plan × Stores)) → AreAlikeMade made others → (insert_outcome into of one made).0 ≡ (insert_outcome into of other others).0
      reply [] [] alike = refl
      reply [] (y ∷ ys) alike = absurd alike
      reply (x ∷ xs) [] alike = absurd alike
      reply (x ∷ xs) (y ∷ ys) alike = ap done (next-same (collection_of one into) (collection_of other into) (alike_collections types list one other into agree named))

  -- what a statement does once its plans are made
  pub effects-agree : (request : Request) (size : ℕ) (wanted : List Lock) (plans others : List Plan) → IsValidFor types one → IsValidFor types other
      → IsCheckedOver types one wanted request → IsCheckedOver types other wanted request
      → NamesChanged list request → (let tree : StatementTree = record { request = request; length = size } in until_bodies tree one ≡ Ok plans)
      → (let tree : StatementTree = record { request = request; length = size } in until_bodies tree other ≡ Ok others)
      → AreAlikePlans plans others → AreDoneAlike request plans others → Alike (AgreeAfter types list) (outcome_of_plans request plans one) (outcome_of_plans request others other)
  effects-agree (select body sources condition) size wanted plans others valid_one valid_other checked also named are_plans are_others alike done_alike =
      Alike-bind ◌≡◌ (AgreeAfter types list) (values_of_plans body plans) (values_of_plans body others) (λ rows. Ok (values rows, one)) (λ rows. Ok (values rows, other))
      (Alike-same ◌≡◌ (values_of_plans body plans) (values_of_plans body others) done_alike (λ rows is. refl))
      (λ rows more first second same. (ap values same, agree))
  effects-agree (insert into of body) size wanted plans others valid_one valid_other checked also named are_plans are_others alike done_alike =
      Alike-bind AreAlikeMade (AgreeAfter types list) (stores_of_plans (insert_store of) body plans) (stores_of_plans (insert_store of) body others)
      (λ made. Ok (insert_outcome into of one made)) (λ made. Ok (insert_outcome into of other made)) done_alike
      (λ made more first second same. inserted_agree into of made more named same)
  effects-agree (delete source condition) size wanted plans others valid_one valid_other checked also named are_plans are_others alike done_alike =
      let ids : List Plan → List ℕ = λ plans. flat_map (λ plan. row_identifiers plan.row) plans in (
        ap done (length-alike plans others alike),
        subst (λ more. Agrees types list (with_changed source.collection (λ c. with_arrays c (without_arrays c.arrays (ids plans))) one)
            (with_changed source.collection (λ c. with_arrays c (without_arrays c.arrays more)) other)) (all_identifiers-same plans others alike)
            (delete-agree types list one other agree source.collection (ids plans) named valid_one valid_other),
      )
  effects-agree (update source axes target body condition) size wanted plans others valid_one valid_other checked also named are_plans are_others alike done_alike =
      Alike-bind AreAlikeMade (AgreeAfter types list) (stores_of_plans (update_store source.of) body plans) (stores_of_plans (update_store source.of) body others)
      (λ made. Ok (done (length plans), with_changed source.collection (λ c. with_arrays c (with_updated source.of c.arrays made)) one))
      (λ made. Ok (done (length others), with_changed source.collection (λ c. with_arrays c (with_updated source.of c.arrays made)) other)) done_alike
      (λ made more first second same. (
        ap done (length-alike plans others alike),
        update-agree types list one other agree source.collection source.of made more named valid_one valid_other same
            (update-rewrites types source axes target body condition size one plans made wanted valid_one checked are_plans first)
            (update-rewrites types source axes target body condition size other others more wanted valid_other also are_others second),
      ))
  effects-agree (create name place) size wanted plans others valid_one valid_other checked also named are_plans are_others alike done_alike =
      (refl, create-agree types list one other agree name place)
  effects-agree (drop name) size wanted plans others valid_one valid_other checked also named are_plans are_others alike done_alike =
      (refl, drop-agree types list one other agree name valid_one valid_other)

  -- what it does from its rows on
  pub outcomes-agree : (statement : StatementTree) (wanted : List Lock) → IsValidFor types one → IsValidFor types other
      → IsCheckedOver types one wanted statement.request → IsCheckedOver types other wanted statement.request → NamesChanged list statement.request
      → Alike AreAlikePlans (until_bodies statement one) (until_bodies statement other)
      → ((plans others : List Plan) → until_bodies statement one ≡ Ok plans → until_bodies statement other ≡ Ok others → AreAlikePlans plans others
      → AreDoneAlike statement.request plans others)
      → Alike (AgreeAfter types list) (outcome_of statement one) (outcome_of statement other)
  outcomes-agree statement wanted valid_one valid_other checked also named plans_alike done_alike =
      Alike-bind AreAlikePlans (AgreeAfter types list) (until_bodies statement one) (until_bodies statement other)
      (λ plans. outcome_of_plans statement.request plans one) (λ plans. outcome_of_plans statement.request plans other) plans_alike
      (λ plans others first second alike. effects-agree statement.request statement.length wanted plans others valid_one valid_other checked also named first second
      alike (done_alike plans others first second alike))

  -- ---- statements as they are written

  ends_alike : (r s : Result StatementOutcome Reply) → Alike (AgreeAfter types list) r s → EndAlike types list (reply_in r) (database_in one r) (reply_in s) (database_in other s)
  ends_alike (Ok a) (Ok b) alike = alike
  ends_alike (Ok a) (Err f) alike = absurd alike
  ends_alike (Err e) (Ok b) alike = absurd alike
  ends_alike (Err e) (Err f) alike = (alike, agree)

  checks_alike : (r : Result Checked CheckMisfit) → ((checked : Checked) → r ≡ Ok checked
      → Alike (AgreeAfter types list) (outcome_of (statement_tree_of checked) one) (outcome_of (statement_tree_of checked) other))
      → EndAlike types list (reply_after_check r one) (effect_after_check r one) (reply_after_check r other) (effect_after_check r other)
  checks_alike (Ok checked) alike =
      ends_alike (outcome_of (statement_tree_of checked) one) (outcome_of (statement_tree_of checked) other) (alike checked refl)
  checks_alike (Err fault) alike = (refl, agree)

-- the collection that a checked request changes is wanted at first
changed_named : (types : List SetType) (database : Database) (wanted list : List Lock) (request : Request) → IsCheckedOver types database wanted request
    → AreNamedIn (lock_list wanted) list → NamesChanged list request
changed_named types database wanted list (select body sources condition) checked covers = tt
changed_named types database wanted list (insert into of body) checked covers =
    covers (Collection into) (asked_is_named wanted (Collection into) Exclusive checked.0)
changed_named types database wanted list (delete source condition) checked covers =
    covers (Collection source.collection) (asked_is_named wanted (Collection source.collection) Exclusive checked.0)
changed_named types database wanted list (update source axes target body condition) checked covers =
    covers (Collection source.collection) (asked_is_named wanted (Collection source.collection) Shared checked.0)
changed_named types database wanted list (create name of) checked covers = tt
changed_named types database wanted list (drop name) checked covers = tt

-- the law of answers, where the plans are alike and give or store the same
pub answers-agree : (types : List SetType) (statement : Statement) (one other : Database) (list : List Lock) → IsValidFor types one → IsValidFor types other
    → Agrees types list one other → AreNamedIn (needs_of types statement 1 one) list
    → (is_too_long (first_list statement) ≡ false → checked_over types statement one ≡ checked_over types statement other)
    → ((checked : Checked) → is_too_long (first_list statement) ≡ false → checked_over types statement one ≡ Ok checked
    → Alike AreAlikePlans (until_bodies (statement_tree_of checked) one) (until_bodies (statement_tree_of checked) other))
    → ((checked : Checked) → is_too_long (first_list statement) ≡ false → checked_over types statement one ≡ Ok checked → (plans others : List Plan)
    → until_bodies (statement_tree_of checked) one ≡ Ok plans → until_bodies (statement_tree_of checked) other ≡ Ok others → AreAlikePlans plans others
    → AreDoneAlike (statement_tree_of checked).request plans others)
    → (reply_of types statement one ≡ reply_of types statement other) × Agrees types list (effect_of types statement one) (effect_of types statement other)
answers-agree types statement one other list valid_one valid_other agree covers same plans_alike done_alike =
    at (is_too_long (first_list statement)) refl
  where
    shorter : is_too_long (first_list statement) ≡ false → EndAlike types list (reply_after_check (checked_over types statement one) one)
        (effect_after_check (checked_over types statement one) one) (reply_after_check (checked_over types statement other) other)
        (effect_after_check (checked_over types statement other) other)
    shorter short =
        subst (λ r. EndAlike types list (reply_after_check (checked_over types statement one) one) (effect_after_check (checked_over types statement one) one)
        (reply_after_check r other) (effect_after_check r other)) (same short)
        (checks_alike types list one other agree (checked_over types statement one)
        (λ checked is.
        let here = statement_checked types one statement checked is in
        outcomes-agree types list one other agree (statement_tree_of checked) (wanted_at_first statement.form) valid_one valid_other here
        (statement_checked types other statement checked (sym (same short) ∙ is))
        (changed_named types one (wanted_at_first statement.form) list (statement_tree_of checked).request here (subst (λ l. AreNamedIn l list) (first_is types statement one short) covers))
        (plans_alike checked short is) (done_alike checked short is)))

    at : (long : Bool) → is_too_long (first_list statement) ≡ long
        → EndAlike types list
        (if long then misfit 0 (record { from = 0; to = statement.length }) TooManyLocks else reply_after_check (checked_over types statement one) one)
        (if long then one else effect_after_check (checked_over types statement one) one)
        (if long then misfit 0 (record { from = 0; to = statement.length }) TooManyLocks else reply_after_check (checked_over types statement other) other)
        (if long then other else effect_after_check (checked_over types statement other) other)
    at true is = (refl, agree)
    at false is = shorter is
