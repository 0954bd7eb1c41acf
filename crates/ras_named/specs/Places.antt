-- The collections that a statement names, and the places of their types.
use Rattle.std.specs.Prelude.{◌≡◌, ℕ, List, [], ◌∷◌, map, Option, Some, None, Contains}
use Rattle.std.specs.Map.{lookup}
use Rattle.ras_store.specs.Kept.{Kept, collection_kept, domain_kept, tile_kept}
use Rattle.ras_syntax.specs.declared.statement.StatementForm.{StatementForm}
use Rattle.ras_syntax.specs.declared.statement.StatementForm.TheVariants.{Select, Insert, Delete, Update, Create, Drop, Word}
use Rattle.ras_syntax.specs.declared.types.SetType.{SetType}
use Rattle.spec_expressions.specs.Tree.{NameOf, is_same_name}
use Rattle.spec_statements.specs.CheckStatement.{Catalog, collection_type, type_at}

-- the names of its collections, in the order of the text
abbrev pub named_in : StatementForm → List NameOf
named_in (Select body sources cond) = map (λ source. source.collection.name) sources
named_in (Insert into body) = into.name ∷ []
named_in (Delete source cond) = source.collection.name ∷ []
named_in (Update source set axes target body cond) = source.collection.name ∷ []
named_in (Create name of) = name.name ∷ []
named_in (Drop name) = name.name ∷ []
named_in (Word word) = []

abbrev pub placed : (NameOf → Option ℕ) → List NameOf → List (NameOf × Option ℕ)
placed places names = map (λ name. (name, places name)) names

-- a catalog of these types, in which each of the names stands for the type at its place
pub record IsCatalogOf (types : List SetType) (places : NameOf → Option ℕ) (names : List NameOf) (catalog : Catalog) : Type 0 where
  pub types_are : catalog.types ≡ types
  pub each : (name : NameOf) → Contains names name → collection_type catalog name ≡ type_at types (places name)

-- the place of the type of a collection that is kept
abbrev pub place_kept : Option Kept → Option ℕ
place_kept None = None
place_kept (Some (collection_kept info)) = Some info.set_type
place_kept (Some (domain_kept domain)) = None
place_kept (Some (tile_kept tile)) = None
