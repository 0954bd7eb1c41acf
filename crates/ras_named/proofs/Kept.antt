-- What a store and a view keep of collections is what their databases have.
use Rattle.std.proofs.Common.{◌≡◌, ℕ, List, [], ◌∷◌, map, Option, Some, None, option_map, Contains, refl, sym, ap, ◌∙◌, inl, inr, ◌⊎◌, subst, arith}
use Rattle.std.specs.Map.{keys_of}
use Rattle.ras_domain.specs.declared.lock.LockName.TheVariants.{Collection}
use Rattle.ras_domain.specs.declared.lock.Mode.{Mode}
use Rattle.ras_domain.specs.declared.lock.Mode.TheVariants.{Shared, Exclusive}
use Rattle.ras_rows.specs.Arrays.{holdings_in}
use Rattle.ras_store.specs.Databases.{Keeps, holding_kept, holdings_of}
use Rattle.ras_store.specs.Kept.{Kept, collection_kept, domain_kept, tile_kept}
use Rattle.ras_store.specs.Store.{store_kept}
use Rattle.ras_store.specs.View.{view_kept}
use Rattle.ras_store.specs.declared.store.Store.{Store}
use Rattle.ras_store.specs.declared.view.View.{View}
use Rattle.ras_syntax.specs.declared.statement.SourceName.{SourceName}
use Rattle.ras_syntax.specs.declared.statement.Statement.{Statement}
use Rattle.ras_syntax.specs.declared.statement.StatementForm.{StatementForm}
use Rattle.ras_syntax.specs.declared.statement.StatementForm.TheVariants.{Select, Insert, Delete, Update, Create, Drop, Word}
use Rattle.ras_syntax.specs.declared.types.SetType.{SetType}
use Rattle.spec_expressions.specs.Database.{Collection as CollectionOf, Database, collection_of}
use Rattle.spec_expressions.specs.Tree.{NameOf}
use Rattle.spec_statements.specs.Agree.{Seen, collection_seen}
use Rattle.spec_statements.specs.CheckStatement.{collection_type, type_at}
use Rattle.spec_statements.specs.Locks.{Lock}
use Rattle.spec_statements.specs.Machine.{catalog_of, first_list, read_lock, wanted_at_first}
use Rattle.spec_statements.specs.ReachLaw.{Names}
use Rattle.spec_views.specs.Holdings.{Holding, StandsFor, collection_held, holding_in, holding_of}
use Rattle.law_effects.proofs.Checked.{collection_type-catalog_of, type_in}
use Rattle.law_effects.proofs.LockNames.{asked_is_named}
use Rattle.law_lists.proofs.Elements.{Contains-here, Contains-there, first_or_later}
use Rattle.ras_named.specs.Places.{IsCatalogOf, named_in, place_kept}

-- ---- a collection that is kept has its set type

abbrev seen-of : CollectionOf → Seen
seen-of collection = collection_seen collection.set_type collection.next (keys_of collection.arrays)

abbrev place-held : Option Holding → Option ℕ
place-held None = None
place-held (Some (collection_held set_type next identifiers)) = Some set_type
place-held (Some other) = None

place-of-kept : (kept : Option Kept) → place-held (option_map holding_kept kept) ≡ place_kept kept
place-of-kept None = refl
place-of-kept (Some (collection_kept info)) = refl
place-of-kept (Some (domain_kept domain)) = refl
place-of-kept (Some (tile_kept tile)) = refl

place-of-seen : (types : List SetType) (found : Option CollectionOf) → type_at types (place-held (holding_in (option_map seen-of found))) ≡ type_in types found
place-of-seen types None = refl
place-of-seen types (Some collection) = refl

kept-type : (types : List SetType) (kept : Option Kept) (found : Option CollectionOf) → option_map holding_kept kept ≡ holding_in (option_map seen-of found)
    → type_at types (place_kept kept) ≡ type_in types found
kept-type types kept found same = ap (type_at types) (sym (place-of-kept kept) ∙ ap place-held same) ∙ place-of-seen types found

-- ---- stores

pub store_has_catalog : (types : List SetType) (store : Store) (database : Database) (names : List NameOf) → Keeps types (store_kept store) database
    → IsCatalogOf types (λ name. place_kept (store_kept store (Collection name))) names (catalog_of types database)
store_has_catalog types store database names keeps = record {
  types_are = refl;
  each = λ name has. collection_type-catalog_of types database name
      ∙ sym (kept-type types (store_kept store (Collection name)) (collection_of database name) (keeps (Collection name)));
}

-- ---- views

-- the lock under which a named collection is wanted at first
wanted-sources : (sources : List SourceName) (name : NameOf) → Contains (map (λ source. source.collection.name) sources) name → Contains (map read_lock sources) (Collection name, Shared)
wanted-sources [] name has = absurd (omega (arith, has.1))
wanted-sources (source ∷ sources) name has = at (wanted-sources sources name) (first_or_later name source.collection.name (map (λ s. s.collection.name) sources) has)
  where
    at : (Contains (map (λ s. s.collection.name) sources) name → Contains (map read_lock sources) (Collection name, Shared)) → (source.collection.name ≡ name) ⊎ Contains (map (λ s. s.collection.name) sources) name → Contains (map read_lock (source ∷ sources)) (Collection name, Shared)
    at rest (inl is) = subst (λ n. Contains (map read_lock (source ∷ sources)) (Collection n, Shared)) is (Contains-here (read_lock source) (map read_lock sources))
    at rest (inr later) = Contains-there (Collection name, Shared) (read_lock source) (map read_lock sources) (rest later)

wanted-one : (lock : List ℕ → Lock) (one name : NameOf) → Contains (one ∷ []) name → Contains (lock one ∷ []) (lock name)
wanted-one lock one name has = at (first_or_later name one [] has)
  where
    at : (one ≡ name) ⊎ Contains [] name → Contains (lock one ∷ []) (lock name)
    at (inl is) = subst (λ n. Contains (lock one ∷ []) (lock n)) is (Contains-here (lock one) [])
    at (inr later) = absurd (omega (arith, later.1))

named-wanted : (form : StatementForm) (name : NameOf) → Contains (named_in form) name → (mode : Mode) × Contains (wanted_at_first form) (Collection name, mode)
named-wanted (Select body sources cond) name has = (Shared, wanted-sources sources name has)
named-wanted (Insert into body) name has = (Exclusive, wanted-one (λ n. (Collection n, Exclusive)) into.name name has)
named-wanted (Delete source cond) name has = (Exclusive, wanted-one (λ n. (Collection n, Exclusive)) source.collection.name name has)
named-wanted (Update source set axes target body cond) name has = (Shared, wanted-one (λ n. (Collection n, Shared)) source.collection.name name has)
named-wanted (Create created of) name has = (Exclusive, wanted-one (λ n. (Collection n, Exclusive)) created.name name has)
named-wanted (Drop dropped) name has = (Exclusive, wanted-one (λ n. (Collection n, Exclusive)) dropped.name name has)
named-wanted (Word word) name has = absurd (omega (arith, has.1))

named-first : (statement : Statement) (name : NameOf) → Contains (named_in statement.form) name → Names (first_list statement) (Collection name)
named-first statement name has =
    let wanted = named-wanted statement.form name has in asked_is_named (wanted_at_first statement.form) (Collection name) wanted.0 wanted.1

pub view_has_catalog : (types : List SetType) (view : View) (statement : Statement) (database : Database) → StandsFor types (holdings_in view) (first_list statement) database
    → IsCatalogOf types (λ name. place_kept (view_kept view (Collection name))) (named_in statement.form) (catalog_of types database)
view_has_catalog types view statement database stands = record {
  types_are = refl;
  each = λ name has. collection_type-catalog_of types database name
      ∙ sym (kept-type types (view_kept view (Collection name)) (collection_of database name) (stands (Collection name) (named-first statement name has)));
}
