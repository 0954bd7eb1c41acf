-- Databases that agree on a statement's first list: the same check, and collections that differ in arrays alone.
use Rattle.std.proofs.Common.{◌≡◌, ℕ, if◌then◌else◌, List, [], ◌∷◌, map, Option, Some, None, option_map, is_some, Ok, Err, Contains, slice_get, refl, sym, ap, ◌∙◌}
use Rattle.std.specs.Map.{keys_of}
use Rattle.ras_domain.specs.declared.lock.LockName.TheVariants.{Collection}
use Rattle.ras_domain.specs.declared.lock.Mode.{Mode}
use Rattle.ras_domain.specs.declared.lock.Mode.TheVariants.{Shared, Exclusive}
use Rattle.ras_syntax.specs.declared.span.Spanned.{Spanned}
use Rattle.ras_syntax.specs.declared.types.SetType.{SetType}
use Rattle.ras_syntax.specs.declared.statement.SourceName.{SourceName}
use Rattle.ras_syntax.specs.declared.statement.Statement.{Statement}
use Rattle.ras_syntax.specs.declared.statement.StatementForm.{StatementForm}
use Rattle.ras_syntax.specs.declared.statement.StatementForm.TheVariants.{Select, Insert, Delete, Update, Create, Drop, Word}
use Rattle.ras_syntax.specs.declared.faults.CheckFault.TheVariants.{CollectionExists, NoCollection}
use Rattle.spec_expressions.specs.Check.{found_at}
use Rattle.spec_statements.specs.CheckStatement.{checked_form, collection_type, known_collection, known_source, known_sources, new_collection}
use Rattle.spec_expressions.specs.Database.{Collection as CollectionOf, Database, collection_of}
use Rattle.spec_statements.specs.Agree.{Agrees, collection_seen}
use Rattle.spec_statements.specs.Locks.{Lock, lock_list}
use Rattle.spec_statements.specs.Machine.{catalog_of, checked_over, first_list, read_lock, wanted_at_first}
use Rattle.spec_statements.specs.ReachLaw.{AreNamedIn, Names}
use Rattle.law_reach.proofs.Outcomes.{bind_same}
use Rattle.law_effects.proofs.Checked.{collection_type-catalog_of, type_in}
use Rattle.law_lists.proofs.Elements.{Contains-here, Contains-there}
use Rattle.law_effects.proofs.LockNames.{asked_is_named}

-- collections with the same set type, next identifier and identifiers
pub record IsAlikeCollection (a b : CollectionOf) : Type 0 where
  pub set_type : a.set_type ≡ b.set_type
  pub next : a.next ≡ b.next
  pub keys : keys_of a.arrays ≡ keys_of b.arrays

-- both are there and alike, or neither is
abbrev pub AreAlikeCollections : Option CollectionOf → Option CollectionOf → Type 0
AreAlikeCollections None None = Unit {0}
AreAlikeCollections (Some a) (Some b) = IsAlikeCollection a b
AreAlikeCollections None (Some b) = ⊥
AreAlikeCollections (Some a) None = ⊥

abbrev pub AreAlikeAt : Database → Database → List ℕ → Type 0
AreAlikeAt one other name = AreAlikeCollections (collection_of one name) (collection_of other name)

seen_alike : (a b : Option CollectionOf) → option_map (λ collection. collection_seen collection.set_type collection.next (keys_of collection.arrays)) a ≡ option_map
    (λ collection. collection_seen collection.set_type collection.next (keys_of collection.arrays)) b → AreAlikeCollections a b
seen_alike None None same = tt
seen_alike None (Some b) same = absurd cc
seen_alike (Some a) None same = absurd cc
seen_alike (Some a) (Some b) same = record { set_type = cc; next = cc; keys = cc }

-- a collection that is locked is alike in both
pub alike_collections : (types : List SetType) (list : List Lock) (one other : Database) (name : List ℕ) → Agrees types list one other → Names list (Collection name)
    → AreAlikeAt one other name
alike_collections types list one other name agrees (mode, has) =
    seen_alike (collection_of one name) (collection_of other name) (agrees (Collection name) mode has)

-- those that are wanted at first are alike
pub wanted_alike : (types : List SetType) (list wanted : List Lock) (one other : Database) → Agrees types list one other → AreNamedIn (lock_list wanted) list
    → (name : List ℕ) (mode : Mode) → Contains wanted (Collection name, mode) → AreAlikeAt one other name
wanted_alike types list wanted one other agrees covers name mode has =
    alike_collections types list one other name agrees (covers (Collection name) (asked_is_named wanted (Collection name) mode has))

-- ---- the check

pub alike_types : (types : List SetType) (a b : Option CollectionOf) → AreAlikeCollections a b → type_in types a ≡ type_in types b
alike_types types None None same = refl
alike_types types None (Some b) same = absurd same
alike_types types (Some a) None same = absurd same
alike_types types (Some a) (Some b) same = ap (slice_get types) same.set_type

module _ (types : List SetType) (one other : Database) where
  type_same : (name : List ℕ) → AreAlikeAt one other name → collection_type (catalog_of types one) name ≡ collection_type (catalog_of types other) name
  type_same name same =
      collection_type-catalog_of types one name
      ∙ alike_types types (collection_of one name) (collection_of other name) same
      ∙ sym (collection_type-catalog_of types other name)

  known_same : (name : Spanned) → AreAlikeAt one other name.name → known_collection (catalog_of types one) name ≡ known_collection (catalog_of types other) name
  known_same name same = ap (found_at name.span NoCollection) (type_same name.name same)

  new_same : (name : Spanned) → AreAlikeAt one other name.name → new_collection (catalog_of types one) name ≡ new_collection (catalog_of types other) name
  new_same name same = ap (λ t. if is_some t then Err (name.span, CollectionExists) else Ok name.name) (type_same name.name same)

  source_same : (source : SourceName) → AreAlikeAt one other source.collection.name → known_source (catalog_of types one) source ≡ known_source (catalog_of types other) source
  source_same source same =
      bind_same (known_collection (catalog_of types one) source.collection) (known_collection (catalog_of types other) source.collection) _ _
      (known_same source.collection same) (λ x is. refl)

  sources_same : (sources : List SourceName) → ((name : List ℕ) (mode : Mode) → Contains (map read_lock sources) (Collection name, mode) → AreAlikeAt one other name)
      → known_sources (catalog_of types one) sources ≡ known_sources (catalog_of types other) sources
  sources_same [] each = refl
  sources_same (source ∷ sources) each =
      bind_same (known_source (catalog_of types one) source) (known_source (catalog_of types other) source) _ _
      (source_same source (each source.collection.name Shared (Contains-here (read_lock source) (map read_lock sources))))
      (λ x is. bind_same (known_sources (catalog_of types one) sources) (known_sources (catalog_of types other) sources) _ _
      (sources_same sources (λ name mode has. each name mode (Contains-there (Collection name, mode) (read_lock source) (map read_lock sources) has)))
      (λ xs is. refl))

  form_same : (size : ℕ) (form : StatementForm) → ((name : List ℕ) (mode : Mode) → Contains (wanted_at_first form) (Collection name, mode) → AreAlikeAt one other name)
      → checked_form (catalog_of types one) size form ≡ checked_form (catalog_of types other) size form
  form_same size (Select body sources condition) each =
      bind_same (known_sources (catalog_of types one) sources) (known_sources (catalog_of types other) sources) _ _ (sources_same sources each) (λ x is. refl)
  form_same size (Insert into body) each =
      bind_same (known_collection (catalog_of types one) into) (known_collection (catalog_of types other) into) _ _
      (known_same into (each into.name Exclusive (Contains-here (Collection into.name, Exclusive) []))) (λ x is. refl)
  form_same size (Delete source condition) each =
      bind_same (known_source (catalog_of types one) source) (known_source (catalog_of types other) source) _ _
      (source_same source (each source.collection.name Exclusive (Contains-here (Collection source.collection.name, Exclusive) []))) (λ x is. refl)
  form_same size (Update source set axes target body condition) each =
      bind_same (known_source (catalog_of types one) source) (known_source (catalog_of types other) source) _ _
      (source_same source (each source.collection.name Shared (Contains-here (read_lock source) []))) (λ x is. refl)
  form_same size (Create name of) each =
      bind_same (new_collection (catalog_of types one) name) (new_collection (catalog_of types other) name) _ _
      (new_same name (each name.name Exclusive (Contains-here (Collection name.name, Exclusive) []))) (λ x is. refl)
  form_same size (Drop name) each =
      bind_same (known_collection (catalog_of types one) name) (known_collection (catalog_of types other) name) _ _
      (known_same name (each name.name Exclusive (Contains-here (Collection name.name, Exclusive) []))) (λ x is. refl)
  form_same size (Word word) each = refl

-- the check has the same outcome
pub checked_same : (types : List SetType) (statement : Statement) (list : List Lock) (one other : Database) → Agrees types list one other
    → AreNamedIn (first_list statement) list → checked_over types statement one ≡ checked_over types statement other
checked_same types statement list one other agrees covers =
    bind_same (checked_form (catalog_of types one) statement.length statement.form) (checked_form (catalog_of types other) statement.length statement.form) _ _
    (form_same types one other statement.length statement.form (wanted_alike types list (wanted_at_first statement.form) one other agrees covers)) (λ x is. refl)
