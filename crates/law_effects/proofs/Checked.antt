-- What a checked statement has of the database that it was checked over.
use Rattle.std.proofs.Common.{◌≡◌, ℕ, Bool, true, false, cond, List, [], ◌∷◌, map, slice_get, option_map, Option, Some, None, Ok, Contains, refl, sym, ap, ◌∙◌, subst, ◌<◌, ◌≤◌, length, get_or, ◌⊎◌, inl, inr, arith}
use Rattle.std.specs.List.{AllByRecursion}
use Rattle.std.specs.Map.{lookup}
use Rattle.std.specs.Ordering.{nat_cmp, is_eq}
use Rattle.std.specs.Cmp.Lexicographic.{slice_cmp}
use Rattle.std.proofs.lemmas.Map.Text.{is_eq-slice_cmp}
use Rattle.std.proofs.lemmas.Option.{slice_get_cases}
use Rattle.std.proofs.lemmas.List.{length-map}
use Rattle.ras_domain.specs.declared.lock.LockName.TheVariants.{Collection}
use Rattle.ras_domain.specs.declared.lock.Mode.TheVariants.{Shared, Exclusive}
use Rattle.ras_syntax.specs.declared.span.Span.{Span}
use Rattle.ras_syntax.specs.declared.span.Spanned.{Spanned}
use Rattle.ras_syntax.specs.declared.types.SetType.{SetType}
use Rattle.ras_syntax.specs.declared.statement.SourceName.{SourceName}
use Rattle.ras_syntax.specs.declared.statement.Statement.{Statement}
use Rattle.ras_syntax.specs.declared.statement.StatementForm.{StatementForm}
use Rattle.ras_syntax.specs.declared.statement.StatementForm.TheVariants as written
use Rattle.ras_syntax.specs.declared.typed.Checked.{Checked}
use Rattle.ras_syntax.specs.declared.typed.CheckedForm.{CheckedForm}
use Rattle.ras_syntax.specs.declared.typed.CheckedForm.TheVariants as made
use Rattle.ras_syntax.specs.declared.typed.CheckedSource.{CheckedSource}
use Rattle.ras_syntax.specs.declared.typed.TypedAxis.{TypedAxis}
use Rattle.spec_expressions.specs.Tree.{NameOf, Axes, is_same_name}
use Rattle.spec_expressions.specs.Names.{place_among}
use Rattle.spec_expressions.specs.Check.{all_are_static, checked_expr}
use Rattle.spec_statements.specs.CheckStatement.{bool_condition, checked_condition, checked_target, iterator_of, once_each, result_body, same_iterator, scope_of, whole_body, written_body, checked_form, collection_type, known_collection, known_source, known_sources, known_type, new_collection, type_at, written_axes}
use Rattle.spec_expressions.specs.Database.{Collection as CollectionOf, Database, collection_of}
use Rattle.spec_statements.specs.Locks.{Lock}
use Rattle.spec_statements.specs.Machine.{catalog_of, checked_over, read_lock, wanted_at_first}
use Rattle.spec_statements.specs.Statement.{Request, request_of, select, insert, delete, update, create, drop, target_axes}
use Rattle.law_shapes.proofs.Outcomes.{bind_ok, unless_ok}
use Rattle.law_lists.proofs.Each.{each_weaker}
use Rattle.law_shapes.proofs.Rules.{ruled-ok}
use Rattle.law_checks.proofs.Sources.{found_at-given, place_of-within}
use Rattle.law_checks.proofs.Statements.{placed_at-given}
use Rattle.law_lists.proofs.Choices.{ok_keeps}
use Rattle.law_lists.proofs.Elements.{Contains-here, Contains-there}

-- the set type of a collection that a database may have
abbrev pub type_in : List SetType → Option CollectionOf → Option SetType
type_in types None = None
type_in types (Some collection) = slice_get types collection.set_type

-- the positions and bounds of a target, if there is one, are static
abbrev pub HasStaticAxes : Option Axes → Type 0
HasStaticAxes None = Unit {0}
HasStaticAxes (Some axes) = all_are_static axes ≡ true

-- what a request has of its collections, and of the locks that were wanted before its check
abbrev pub IsCheckedOver : List SetType → Database → List Lock → Request → Type 0
IsCheckedOver types database wanted (select body sources condition) =
    AllByRecursion (λ source. Contains wanted (Collection source.collection, Shared) × (type_in types (collection_of database source.collection) ≡ Some source.of)) sources
IsCheckedOver types database wanted (insert into of body) =
    Contains wanted (Collection into, Exclusive) × (type_in types (collection_of database into) ≡ Some of)
IsCheckedOver types database wanted (delete source condition) =
    Contains wanted (Collection source.collection, Exclusive)
    × (type_in types (collection_of database source.collection) ≡ Some source.of)
IsCheckedOver types database wanted (update source axes target body condition) =
    Contains wanted (Collection source.collection, Shared)
    × (type_in types (collection_of database source.collection) ≡ Some source.of) × HasStaticAxes axes
IsCheckedOver types database wanted (create name place) =
    Contains wanted (Collection name, Exclusive) × ((of : SetType) × (slice_get types place ≡ Some of))
IsCheckedOver types database wanted (drop name) = Contains wanted (Collection name, Exclusive)

-- ---- look-ups in the catalog

-- the catalog has of each collection the place of its set type
abbrev set_types_in : Database → List (NameOf × ℕ)
set_types_in database = map (λ entry. (entry.0, entry.1.set_type)) database

lookup-catalog : (database : Database) (name : List ℕ) → lookup (is_same_name name) (set_types_in database) ≡ option_map (λ collection. collection.set_type) (collection_of database name)
lookup-catalog [] name = refl
lookup-catalog (entry ∷ entries) name = at (is_same_name name entry.0) (is_eq (slice_cmp nat_cmp name entry.0)) (sym (is_eq-slice_cmp name entry.0)) (lookup-catalog entries name)
  where
    at : (a b : Bool) → a ≡ b → lookup (is_same_name name) (set_types_in entries) ≡ option_map (λ collection. collection.set_type) (collection_of entries name)
        → cond a (Some entry.1.set_type) (lookup (is_same_name name) (set_types_in entries)) ≡ option_map (λ collection. collection.set_type)
        (cond b (Some entry.1) (collection_of entries name))
    at true true same later = refl
    at true false same later = absurd cc
    at false true same later = absurd cc
    at false false same later = later

type_at-option_map : (types : List SetType) (found : Option CollectionOf) → type_at types (option_map (λ collection. collection.set_type) found) ≡ type_in types found
type_at-option_map types None = refl
type_at-option_map types (Some collection) = refl

pub collection_type-catalog_of : (types : List SetType) (database : Database) (name : List ℕ) → collection_type (catalog_of types database) name ≡ type_in types (collection_of database name)
collection_type-catalog_of types database name =
    ap (type_at types) (lookup-catalog database name) ∙ type_at-option_map types (collection_of database name)

known_collection-is : (types : List SetType) (database : Database) (name : Spanned) (of : SetType) → known_collection (catalog_of types database) name ≡ Ok of
    → type_in types (collection_of database name.name) ≡ Some of
known_collection-is types database name of is =
    sym (collection_type-catalog_of types database name.name) ∙ found_at-given name.span _ _ of is

-- ---- sources

-- a checked source has the name that was written, and the set type of its collection
abbrev IsKnown : List SetType → Database → SourceName → CheckedSource → Type 0
IsKnown types database source known =
    (known.collection ≡ source.collection.name) × (type_in types (collection_of database known.collection) ≡ Some known.of)

known_source-is : (types : List SetType) (database : Database) (source : SourceName) (known : CheckedSource)
    → known_source (catalog_of types database) source ≡ Ok known → IsKnown types database source known
known_source-is types database source known is =
    let (of, found, rest) = bind_ok (known_collection (catalog_of types database) source.collection) _ known is in
    ok_keeps (IsKnown types database source) _ known rest (refl, known_collection-is types database source.collection of found)

-- a source whose collection is among those that are wanted
abbrev IsRead : List SetType → Database → List Lock → CheckedSource → Type 0
IsRead types database wanted source =
    Contains wanted (Collection source.collection, Shared) × (type_in types (collection_of database source.collection) ≡ Some source.of)

known_sources-are : (types : List SetType) (database : Database) (sources : List SourceName) (known : List CheckedSource)
    → known_sources (catalog_of types database) sources ≡ Ok known → AllByRecursion (IsRead types database (map read_lock sources)) known
known_sources-are types database [] known is = ok_keeps (AllByRecursion (IsRead types database [])) [] known is tt
known_sources-are types database (source ∷ sources) known is =
    let (x, found, rest) = bind_ok (known_source (catalog_of types database) source) _ known is in
    let (xs, others, last) = bind_ok (known_sources (catalog_of types database) sources) _ known rest in
    let k = known_source-is types database source x found in
    let wanted : List Lock = map read_lock sources in
    ok_keeps (AllByRecursion (IsRead types database (read_lock source ∷ wanted))) (x ∷ xs) known last (
      (subst (λ name. Contains {X = Lock} (read_lock source ∷ wanted) (Collection name, Shared)) (sym k.0) (Contains-here (read_lock source) wanted), k.1),
      each_weaker (IsRead types database wanted) (IsRead types database (read_lock source ∷ wanted))
          (λ s h. (Contains-there (Collection s.collection, Shared) (read_lock source) wanted h.0, h.1)) xs
          (known_sources-are types database sources xs others),
    )

-- ---- targets and types

-- a target's axes are static
written_axes-static : (target : Span) (of : SetType) (axes region : Option (List TypedAxis)) → written_axes target of axes ≡ Ok region → HasStaticAxes (option_map target_axes region)
written_axes-static target of None region is = ok_keeps (λ r. HasStaticAxes (option_map target_axes r)) None region is tt
written_axes-static target of (Some axes) region is =
    let rule = ruled-ok _ _ _ (Some axes) region (placed_at-given target _ region is) in
    subst (λ r. HasStaticAxes (option_map target_axes r)) rule.3 rule.2

-- a name that is found among the types has its type at that place
place_of-found : (types : List SetType) (name : List ℕ) (place : ℕ) → place_among name (map (λ of. of.name) types) ≡ Some place → (of : SetType) × (slice_get types place ≡ Some of)
place_of-found types name place is = at (slice_get_cases types place).1
  where
    at : ((of : SetType) × (place < length types) × (slice_get types place ≡ Some of) × (get_or types place of ≡ of))
        ⊎ ((length types ≤ place) × (slice_get types place ≡ None)) → (of : SetType) × (slice_get types place ≡ Some of)
    at (inl there) = (there.0, there.2)
    at (inr past) = absurd (omega (arith, past.0, place_of-within name (map (λ of. of.name) types) place is, length-map types (λ of. of.name)))

-- ---- statements

-- each form
form_checked : (types : List SetType) (database : Database) (size : ℕ) (form : StatementForm) (checked : CheckedForm)
    → checked_form (catalog_of types database) size form ≡ Ok checked → IsCheckedOver types database (wanted_at_first form) (request_of checked)
form_checked types database size (written.Select body sources condition) checked is =
    let (from, known, then_1) = bind_ok (known_sources (catalog_of types database) sources) _ checked is in
    let (names, once, then_2) = bind_ok (once_each [] (map iterator_of sources)) _ checked then_1 in
    let (e, checked_e, then_3) = bind_ok (checked_expr body (scope_of from)) _ checked then_2 in
    let (c, checked_c, then_4) = bind_ok (checked_condition condition (scope_of from)) _ checked then_3 in
    let (result, is_result, then_5) = bind_ok (result_body e) _ checked then_4 in
    let (test, is_test, last) = bind_ok (bool_condition c) _ checked then_5 in
    ok_keeps (λ form. IsCheckedOver types database (map read_lock sources) (request_of form)) (made.Select result from test) checked last
    (known_sources-are types database sources from known)
form_checked types database size (written.Insert into body) checked is =
    let (of, known, then_1) = bind_ok (known_collection (catalog_of types database) into) _ checked is in
    let (e, checked_e, then_2) = bind_ok (checked_expr body (scope_of [])) _ checked then_1 in
    let (whole, is_whole, last) = bind_ok (whole_body of e) _ checked then_2 in
    ok_keeps (λ form. IsCheckedOver types database ((Collection into.name, Exclusive) ∷ []) (request_of form)) (made.Insert into.name of whole) checked last
    (Contains-here (Collection into.name, Exclusive) [], known_collection-is types database into of known)
form_checked types database size (written.Delete source condition) checked is =
    let (from, known, then_1) = bind_ok (known_source (catalog_of types database) source) _ checked is in
    let (c, checked_c, then_2) = bind_ok (checked_condition condition (scope_of (from ∷ []))) _ checked then_1 in
    let (test, is_test, last) = bind_ok (bool_condition c) _ checked then_2 in
    let k = known_source-is types database source from known in
    ok_keeps (λ form. IsCheckedOver types database ((Collection source.collection.name, Exclusive) ∷ []) (request_of form)) (made.Delete from test) checked last (
      subst (λ name. Contains {X = Lock} ((Collection source.collection.name, Exclusive) ∷ []) (Collection name, Exclusive)) (sym k.0)
          (Contains-here (Collection source.collection.name, Exclusive) []),
      k.1,
    )
form_checked types database size (written.Update source set axes target body condition) checked is =
    let (from, known, then_1) = bind_ok (known_source (catalog_of types database) source) _ checked is in
    let (name, is_name, then_2) = bind_ok (same_iterator set from.iterator) _ checked then_1 in
    let (xs, checked_xs, then_3) = bind_ok (checked_target axes (scope_of (from ∷ []))) _ checked then_2 in
    let (e, checked_e, then_4) = bind_ok (checked_expr body (scope_of (from ∷ []))) _ checked then_3 in
    let (c, checked_c, then_5) = bind_ok (checked_condition condition (scope_of (from ∷ []))) _ checked then_4 in
    let (region, is_region, then_6) = bind_ok (written_axes target from.of xs) _ checked then_5 in
    let (body', is_body, then_7) = bind_ok (written_body xs from.of e) _ checked then_6 in
    let (test, is_test, last) = bind_ok (bool_condition c) _ checked then_7 in
    let k = known_source-is types database source from known in
    ok_keeps (λ form. IsCheckedOver types database (read_lock source ∷ []) (request_of form)) (made.Update from region target body' test) checked last (
      subst (λ name. Contains {X = Lock} (read_lock source ∷ []) (Collection name, Shared)) (sym k.0) (Contains-here (read_lock source) []),
      k.1,
      written_axes-static
          target from.of xs region is_region,
    )
form_checked types database size (written.Create name of) checked is =
    let (new, is_new, then_1) = bind_ok (new_collection (catalog_of types database) name) _ checked is in
    let (place, is_place, last) = bind_ok (known_type (catalog_of types database) of) _ checked then_1 in
    let (other, same) = unless_ok _ _ _ new is_new in
    ok_keeps (λ form. IsCheckedOver types database ((Collection name.name, Exclusive) ∷ []) (request_of form)) (made.Create new place) checked last (
      ok_keeps (λ n. Contains {X = Lock} ((Collection name.name, Exclusive) ∷ []) (Collection n, Exclusive)) name.name new same (Contains-here (Collection name.name, Exclusive) []),
      place_of-found types of.name place (found_at-given of.span _ _ place is_place),
    )
form_checked types database size (written.Drop name) checked is =
    let (of, known, last) = bind_ok (known_collection (catalog_of types database) name) _ checked is in
    ok_keeps (λ form. IsCheckedOver types database ((Collection name.name, Exclusive) ∷ []) (request_of form)) (made.Drop name.name) checked last
    (Contains-here (Collection name.name, Exclusive) [])
form_checked types database size (written.Word word) checked is = absurd cc

-- what the check of a statement says of its request
pub statement_checked : (types : List SetType) (database : Database) (statement : Statement) (checked : Checked) → checked_over types statement database ≡ Ok checked
    → IsCheckedOver types database (wanted_at_first statement.form) (request_of checked.form)
statement_checked types database statement checked is =
    let (form, is_form, last) = bind_ok (checked_form (catalog_of types database) statement.length statement.form) _ checked is in
    ok_keeps (λ c. IsCheckedOver types database (wanted_at_first statement.form) (request_of c.form)) _ checked last
    (form_checked types database statement.length statement.form form is_form)
