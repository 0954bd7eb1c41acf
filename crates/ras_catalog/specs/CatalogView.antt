-- The catalog that a statement is checked over, as it is handed in and as it is kept.
use Rattle.std.specs.Prelude.{◌≡◌, ℕ, cond, List, [], ◌∷◌, drop, Option, Some, None}
use Rattle.std.specs.Map.{lookup}
use Rattle.std.specs.Ordering.{nat_cmp}
use Rattle.std.specs.Cmp.Lexicographic.{slice_cmp}
use Rattle.std.specs.BTreeMap.{BTreeMap, get_by}
use Rattle.std.specs.Borrow.{Bor}
use Rattle.ras_syntax.specs.declared.types.SetType.{SetType}
use Rattle.spec_expressions.specs.Tree.{NameOf, is_same_name}
use Rattle.spec_statements.specs.CheckStatement as statements
use Rattle.ras_catalog.specs.declared.catalog.Catalog.TheInside.{Inside}

abbrev pub put_listed : NameOf → Option ℕ → List (NameOf × ℕ) → List (NameOf × ℕ)
put_listed name None others = others
put_listed name (Some place) others = (name, place) ∷ others

-- the collections with the places of their types; a name with no place is of no collection
abbrev pub listed_places : List (NameOf × Option ℕ) → List (NameOf × ℕ)
listed_places [] = []
listed_places (entry ∷ entries) = put_listed entry.0 entry.1 (listed_places entries)

abbrev pub catalog_over : List SetType → List (NameOf × Option ℕ) → statements.Catalog
catalog_over types collections = record { types = types; collections = listed_places collections }

-- what a look-up finds where the place of a collection's type was put before the rest
abbrev pub found_after : NameOf → NameOf → Option ℕ → Option ℕ → Option ℕ
found_after q name None rest = rest
found_after q name (Some place) rest = cond (is_same_name q name) (Some place) rest

-- the map has the place under the name, where there is one, and else what it had
pub record PutsPlace (old new : BTreeMap (Bor (List ℕ)) ℕ) (name : NameOf) (place : Option ℕ) : Type 0 where
  pub found : (q : NameOf) → get_by (λ key. slice_cmp nat_cmp q key.now) new ≡ found_after q name place (get_by (λ key. slice_cmp nat_cmp q key.now) old)

-- the map has what a look-up among the collections from a place on finds
pub record HasTypesFrom (first : ℕ) (places : BTreeMap (Bor (List ℕ)) ℕ) (collections : List (NameOf × Option ℕ)) : Type 0 where
  pub kept : (name : NameOf) → get_by (λ key. slice_cmp nat_cmp name key.now) places ≡ lookup (is_same_name name) (listed_places (drop first collections))

abbrev pub catalog_seen : Inside → statements.Catalog
catalog_seen t = catalog_over t.types.now t.collections.now

abbrev pub IsCatalog : Inside → Type 0
IsCatalog t = HasTypesFrom 0 t.places t.collections.now
