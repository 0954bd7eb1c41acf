-- What is known of a request whose check is passed, over two databases that agree on its first list.
use Rattle.std.proofs.Common.{◌≡◌, ◌≤◌, ℕ, List, [], ◌∷◌, Some, IfSome, Ok, false, Contains, sym, ◌∙◌, subst}
use Rattle.std.specs.List.{AllByRecursion}
use Rattle.std.proofs.lemmas.List.Elements.{recursion_from_All}
use Rattle.ras_domain.specs.declared.lock.LockName.TheVariants.{Collection}
use Rattle.ras_domain.specs.declared.lock.Mode.{Mode}
use Rattle.ras_domain.specs.declared.lock.Mode.TheVariants.{Shared, Exclusive}
use Rattle.ras_syntax.specs.declared.statement.Statement.{Statement}
use Rattle.ras_syntax.specs.declared.types.SetType.{SetType}
use Rattle.ras_syntax.specs.declared.typed.Checked.{Checked}
use Rattle.ras_syntax.specs.declared.typed.CheckedSource.{CheckedSource}
use Rattle.spec_expressions.specs.Database.{Collection as CollectionOf, Database, collection_of}
use Rattle.spec_expressions.specs.SetTypes.{AreTypes}
use Rattle.spec_expressions.specs.WellTyped.{IsWellTypedCondition}
use Rattle.spec_statements.specs.Agree.{Agrees}
use Rattle.spec_statements.specs.Locks.{Lock}
use Rattle.spec_statements.specs.Machine.{catalog_of, checked_over, first_list, is_too_long, wanted_at_first}
use Rattle.spec_statements.specs.ReachLaw.{AreNamedIn, IsSetting, Names}
use Rattle.spec_statements.specs.Rows.{sources_of, where_of}
use Rattle.spec_statements.specs.Statement.{Request, statement_tree_of, select, insert, delete, update, create, drop}
use Rattle.spec_statements.specs.Validity.{HasSmallNext, IsValidFor}
use Rattle.law_lists.proofs.Each.{each_weaker}
use Rattle.law_checks.specs.Statements.{IsSourceIn, IsWellTypedRequest}
use Rattle.law_checks.proofs.Statements.{statement-typed}
use Rattle.law_effects.proofs.Checked.{IsCheckedOver, collection_type-catalog_of, statement_checked, type_in}
use Rattle.law_effects.proofs.Validity.{collection_in, type_fits}
use Rattle.law_effects.proofs.LockNames.{asked_is_named}
use Rattle.law_effects.proofs.Phases.{first_is}
use Rattle.law_locks.proofs.Collections.{AreAlikeAt, AreAlikeCollections, alike_types, wanted_alike}
use Rattle.law_locks.proofs.Pairs.{IsOver}
use Rattle.law_locks.proofs.Planned.{IsTypedBody, body_in}
use Rattle.ras_syntax.specs.declared.limits.TheConstants.{MAX_IDENTIFIER}

-- ---- the parts of a request that keep the rules of types

condition_typed : (types : List SetType) (database : Database) (request : Request) → IsWellTypedRequest (catalog_of types database) request
    → IsWellTypedCondition (sources_of request) [] (where_of request)
condition_typed types database (select body sources condition) typed = typed.condition_typed
condition_typed types database (insert into of body) typed = tt
condition_typed types database (delete source condition) typed = typed.condition_typed
condition_typed types database (update source axes target body condition) typed = typed.condition_typed
condition_typed types database (create name of) typed = tt
condition_typed types database (drop name) typed = tt

body_typed : (types : List SetType) (database : Database) (request : Request) → IsWellTypedRequest (catalog_of types database) request → IsTypedBody (sources_of request) (body_in request)
body_typed types database (select body sources condition) typed = typed.body_typed
body_typed types database (insert into of body) typed = typed.body_typed
body_typed types database (delete source condition) typed = tt
body_typed types database (update source axes target body condition) typed = typed.body_typed
body_typed types database (create name of) typed = tt
body_typed types database (drop name) typed = tt

-- ---- the sources

-- the databases are valid
pub record AreValid (types : List SetType) (one other : Database) : Type 0 where
  pub types_fit : AreTypes types
  pub first : IsValidFor types one
  pub second : IsValidFor types other

module _ (types : List SetType) (one other : Database) (are : AreValid types one other) where
  source_over : (source : CheckedSource) → AreAlikeAt one other source.collection → HasSmallNext one source.collection → IsSourceIn (catalog_of types one) source → IsOver types one other source
  source_over source same few known =
      let name : List ℕ = source.collection in
      let type : type_in types (collection_of one name) ≡ Some source.of = sym (collection_type-catalog_of types one name) ∙ known in
      let (first, first_in) = collection_in types one name source.of are.first type in
      let (second, second_in) = collection_in types other name source.of are.second (sym (alike_types types (collection_of one name) (collection_of other name) same) ∙ type) in
      let P : CollectionOf → Type 0 = λ collection. collection.next ≤ MAX_IDENTIFIER in
      record {
        first = first;
        second = second;
        first_in = first_in;
        second_in = second_in;
        alike = subst (λ o. AreAlikeCollections (Some first) o) second_in.found (subst (λ o. AreAlikeCollections o (collection_of other name)) first_in.found same);
        small = subst (λ o. IfSome o P) first_in.found (few);
        type = type_fits types first.set_type source.of are.types_fit first_in.type;
      }

  sources_each : (wanted : List Lock) → ((name : List ℕ) (mode : Mode) → Contains wanted (Collection name, mode) → AreAlikeAt one other name × HasSmallNext one name)
      → (sources : List CheckedSource) → AllByRecursion (λ source. Contains wanted (Collection source.collection, Shared)) sources
      → AllByRecursion (IsSourceIn (catalog_of types one)) sources → AllByRecursion (IsOver types one other) sources
  sources_each wanted alike [] named known = tt
  sources_each wanted alike (source ∷ sources) named known =
      (let both = alike source.collection Shared named.0 in source_over source both.0 both.1 known.0, sources_each wanted alike sources named.1 known.1)

  sources_over : (wanted : List Lock) (request : Request) → ((name : List ℕ) (mode : Mode) → Contains wanted (Collection name, mode) → AreAlikeAt one other name × HasSmallNext one name)
      → IsCheckedOver types one wanted request → IsWellTypedRequest (catalog_of types one) request → AllByRecursion (IsOver types one other) (sources_of request)
  sources_over wanted (select body sources condition) alike checked typed =
      sources_each wanted alike sources (each_weaker _ (λ source. Contains wanted (Collection source.collection, Shared)) (λ source h. h.0) sources checked)
      (recursion_from_All (IsSourceIn (catalog_of types one)) sources typed.known)
  sources_over wanted (insert into of body) alike checked typed = tt
  sources_over wanted (delete source condition) alike checked typed = (let both = alike source.collection Exclusive checked.0 in source_over source both.0 both.1 typed.known, tt)
  sources_over wanted (update source axes target body condition) alike checked typed = (let both = alike source.collection Shared checked.0 in source_over source both.0 both.1 typed.known, tt)
  sources_over wanted (create name of) alike checked typed = tt
  sources_over wanted (drop name) alike checked typed = tt

-- ---- all of it

pub record IsKnown (types : List SetType) (one other : Database) (statement : Statement) (request : Request) : Type 0 where
  pub over : AllByRecursion (IsOver types one other) (sources_of request)
  pub condition : IsWellTypedCondition (sources_of request) [] (where_of request)
  pub body : IsTypedBody (sources_of request) (body_in request)
  pub checked : IsCheckedOver types one (wanted_at_first statement.form) request
  pub alike : (name : List ℕ) (mode : Mode) → Contains (wanted_at_first statement.form) (Collection name, mode) → AreAlikeAt one other name

pub known : (types : List SetType) (statement : Statement) (one other : Database) (list : List Lock) (checked : Checked) → IsSetting types statement one
    → IsValidFor types other → Agrees types list one other → is_too_long (first_list statement) ≡ false → AreNamedIn (first_list statement) list → checked_over types statement one ≡ Ok checked
    → IsKnown types one other statement (statement_tree_of checked).request
known types statement one other list checked setting valid agrees short covers is =
    let typed = statement-typed (catalog_of types one) statement checked setting.numbers_fit is in
    let checked_one = statement_checked types one statement checked is in
    let alike = wanted_alike types list (wanted_at_first statement.form) one other agrees covers in
    let few : (name : List ℕ) (mode : Mode) → Contains (wanted_at_first statement.form) (Collection name, mode) → HasSmallNext one name = λ name mode has.
    setting.small_identifiers name (subst (λ l. Names l (Collection name)) (sym (first_is types statement one short))
    (asked_is_named (wanted_at_first statement.form) (Collection name) mode has)) in
    let are : AreValid types one other = record { types_fit = setting.types_fit; first = setting.valid; second = valid } in
    record {
      over = sources_over types one other are (wanted_at_first statement.form) (statement_tree_of checked).request (λ name mode has. (alike name mode has, few name mode has)) checked_one typed;
      condition = condition_typed types one (statement_tree_of checked).request typed;
      body = body_typed types one (statement_tree_of checked).request typed;
      checked = checked_one;
      alike = alike;
    }
