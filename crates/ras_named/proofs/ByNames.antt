-- The check looks at the collections that a statement names, and at no others.
use Rattle.std.proofs.Common.{◌≡◌, ◌⊎◌, inl, inr, ℕ, Bool, true, false, if◌then◌else◌, List, [], ◌∷◌, map, Option, Some, None, is_some, Result, Ok, Err, Contains, refl, sym, ap, ◌∙◌, subst, arith}
use Rattle.std.proofs.lemmas.Slice.Eq.{slice_eq-Decides}
use Rattle.std.specs.Cmp.{unsigned_Decides}
use Rattle.std.specs.Map.{lookup}
use Rattle.std.specs.List.{list_any}
use Rattle.std.specs.Prelude.{cond, ◌||◌}
use Rattle.ras_syntax.specs.declared.span.Spanned.{Spanned}
use Rattle.ras_syntax.specs.declared.types.SetType.{SetType}
use Rattle.ras_syntax.specs.declared.typed.Checked.{Checked}
use Rattle.ras_syntax.specs.declared.statement.SourceName.{SourceName}
use Rattle.ras_syntax.specs.declared.statement.Statement.{Statement}
use Rattle.ras_syntax.specs.declared.statement.StatementForm.{StatementForm}
use Rattle.ras_syntax.specs.declared.statement.StatementForm.TheVariants.{Select, Insert, Delete, Update, Create, Drop, Word}
use Rattle.ras_syntax.specs.declared.faults.CheckFault.TheVariants.{CollectionExists, NoCollection}
use Rattle.ras_catalog.specs.CatalogView.{catalog_over, listed_places}
use Rattle.ras_catalog.specs.Outcome.{IsChecked}
use Rattle.ras_catalog.specs.declared.fault.CheckError.{CheckError}
use Rattle.spec_expressions.specs.Check.{found_at}
use Rattle.spec_expressions.specs.Tree.{NameOf, is_same_name}
use Rattle.spec_statements.specs.CheckStatement.{Catalog, checked_form, checked_statement, collection_type, known_collection, known_source, known_sources, known_type, new_collection, type_at}
use Rattle.law_reach.proofs.Outcomes.{bind_same}
use Rattle.law_lists.proofs.Elements.{Contains-here, Contains-there, first_or_later}
use Rattle.ras_named.specs.Places.{IsCatalogOf, named_in, placed}

-- ---- the same types under the names, the same check

module _ (one other : Catalog) (types : one.types ≡ other.types) where
  abbrev SameAt : NameOf → Type 0
  SameAt name = collection_type one name ≡ collection_type other name

  known-same : (name : Spanned) → SameAt name.name → known_collection one name ≡ known_collection other name
  known-same name same = ap (found_at name.span NoCollection) same

  new-same : (name : Spanned) → SameAt name.name → new_collection one name ≡ new_collection other name
  new-same name same = ap (λ t. if is_some t then Err (name.span, CollectionExists) else Ok name.name) same

  source-same : (source : SourceName) → SameAt source.collection.name → known_source one source ≡ known_source other source
  source-same source same =
      bind_same (known_collection one source.collection) (known_collection other source.collection) _ _ (known-same source.collection same) (λ x is. refl)

  sources-same : (sources : List SourceName) → ((name : NameOf) → Contains (map (λ source. source.collection.name) sources) name → SameAt name)
      → known_sources one sources ≡ known_sources other sources
  sources-same [] each = refl
  sources-same (source ∷ sources) each =
      let names : List NameOf = map (λ s. s.collection.name) sources in
      bind_same (known_source one source) (known_source other source) _ _
      (source-same source (each source.collection.name (Contains-here source.collection.name names)))
      (λ x is. bind_same (known_sources one sources) (known_sources other sources) _ _
      (sources-same sources (λ name has. each name (Contains-there name source.collection.name names has)))
      (λ xs is. refl))

  first : (name : NameOf) → ((n : NameOf) → Contains (name ∷ []) n → SameAt n) → SameAt name
  first name each = each name (Contains-here name [])

  form-same : (size : ℕ) (form : StatementForm) → ((name : NameOf) → Contains (named_in form) name → SameAt name) → checked_form one size form ≡ checked_form other size form
  form-same size (Select body sources condition) each = bind_same (known_sources one sources) (known_sources other sources) _ _ (sources-same sources each) (λ x is. refl)
  form-same size (Insert into body) each = bind_same (known_collection one into) (known_collection other into) _ _ (known-same into (first into.name each)) (λ x is. refl)
  form-same size (Delete source condition) each =
      bind_same (known_source one source) (known_source other source) _ _ (source-same source (first source.collection.name each)) (λ x is. refl)
  form-same size (Update source set axes target body condition) each =
      bind_same (known_source one source) (known_source other source) _ _ (source-same source (first source.collection.name each)) (λ x is. refl)
  form-same size (Create name of) each =
      bind_same (new_collection one name) (new_collection other name) _ _ (new-same name (first name.name each))
      (λ x is. bind_same (known_type one of) (known_type other of) _ _ (ap (λ ts. known_type (record { types = ts; collections = [] }) of) types) (λ y at. refl))
  form-same size (Drop name) each = bind_same (known_collection one name) (known_collection other name) _ _ (known-same name (first name.name each)) (λ x is. refl)
  form-same size (Word word) each = refl

  statement-same : (statement : Statement) → ((name : NameOf) → Contains (named_in statement.form) name → SameAt name) → checked_statement one statement ≡ checked_statement other statement
  statement-same statement each =
      bind_same (checked_form one statement.length statement.form) (checked_form other statement.length statement.form) _ _
      (form-same statement.length statement.form each) (λ x is. refl)

-- ---- what the list of the named has

same-names : (a b : NameOf) → is_same_name a b ≡ true → a ≡ b
same-names a b same = (slice_eq-Decides unsigned_Decides a b (is_same_name a b) refl).0 same

same-itself : (a : NameOf) → is_same_name a a ≡ true
same-itself a = (slice_eq-Decides unsigned_Decides a a (is_same_name a a) refl).1 refl

any-turn : (q h : NameOf) (names : List NameOf) → (h ≡ q) ⊎ (list_any (is_same_name q) names ≡ true) → (is_same_name q h || list_any (is_same_name q) names) ≡ true
any-turn q h names (inl is) = rw (ap (is_same_name q) is ∙ same-itself q) refl
any-turn q h names (inr later) = or-later (is_same_name q h) (list_any (is_same_name q) names) later
  where
    or-later : (a b : Bool) → b ≡ true → (a || b) ≡ true
    or-later true b is = refl
    or-later false b is = is

first-or-any : (q h : NameOf) (names : List NameOf) → (Contains names q → list_any (is_same_name q) names ≡ true) → (h ≡ q) ⊎ Contains names q → (h ≡ q) ⊎ (list_any (is_same_name q) names ≡ true)
first-or-any q h names later (inl is) = inl is
first-or-any q h names later (inr has) = inr (later has)

any-of : (q : NameOf) (names : List NameOf) → Contains names q → list_any (is_same_name q) names ≡ true
any-of q [] has = absurd (omega (arith, has.1))
any-of q (h ∷ names) has = any-turn q h names (first-or-any q h names (any-of q names) (first_or_later q h names has))

none-either : (any : Bool) (x : Option ℕ) → x ≡ None → (if any then x else None) ≡ x
none-either true x is = refl
none-either false x is = sym is

-- the sources' names with their places
pub placed_sources : (places : NameOf → Option ℕ) (sources : List SourceName)
    → map (λ source. (source.collection.name, places source.collection.name)) sources ≡ placed places (map (λ source. source.collection.name) sources)
placed_sources places [] = refl
placed_sources places (source ∷ sources) = ap (λ rest. (source.collection.name, places source.collection.name) ∷ rest) (placed_sources places sources)

module _ (places : NameOf → Option ℕ) where
  abbrev found-in : NameOf → List NameOf → Option ℕ
  found-in q names = if list_any (is_same_name q) names then places q else None

  place-turn : (q h : NameOf) (same : Bool) (place : Option ℕ) (names : List NameOf) → is_same_name q h ≡ same → places h ≡ place
      → lookup (is_same_name q) (listed_places (placed places names)) ≡ found-in q names
      → lookup (is_same_name q) (listed_places ((h, place) ∷ placed places names)) ≡ (if same || list_any (is_same_name q) names then places q else None)
  place-turn q h true (Some p) names is at rest =
      ap (λ b. cond b (Some p) (lookup (is_same_name q) (listed_places (placed places names)))) is ∙ sym (ap places (same-names q h is) ∙ at)
  place-turn q h true None names is at rest = rest ∙ none-either (list_any (is_same_name q) names) (places q) (ap places (same-names q h is) ∙ at)
  place-turn q h false (Some p) names is at rest = ap (λ b. cond b (Some p) (lookup (is_same_name q) (listed_places (placed places names)))) is ∙ rest
  place-turn q h false None names is at rest = rest

  found-places : (q : NameOf) (names : List NameOf) → lookup (is_same_name q) (listed_places (placed places names)) ≡ found-in q names
  found-places q [] = refl
  found-places q (h ∷ names) = place-turn q h (is_same_name q h) (places h) names refl refl (found-places q names)

  found-named : (q : NameOf) (names : List NameOf) → Contains names q → lookup (is_same_name q) (listed_places (placed places names)) ≡ places q
  found-named q names has = found-places q names ∙ ap (λ b. if b then places q else None) (any-of q names has)

  pub check_by_names : (types : List SetType) (statement : Statement) (list : List (NameOf × Option ℕ)) (result : Result Checked CheckError)
      → list ≡ placed places (named_in statement.form) → IsChecked (checked_statement (catalog_over types list) statement) result
      → (catalog : Catalog) → IsCatalogOf types places (named_in statement.form) catalog → IsChecked (checked_statement catalog statement) result
  check_by_names types statement list result is checked catalog seen =
      subst (λ wanted. IsChecked wanted result)
      (statement-same (catalog_over types list) catalog (sym seen.types_are) statement
      (λ name has. ap (type_at types) (ap (λ l. lookup (is_same_name name) (listed_places l)) is ∙ found-named name (named_in statement.form) has) ∙ sym (seen.each name has)))
      checked
