-- What a lock shows of a database, and when two databases agree on a list of locks.
use Rattle.std.specs.Prelude.{◌≡◌, ℕ, ◌==◌, ℤ, Bool, ◌&&◌, List, [], length, filter, slice_get, Option, Some, None, Contains}
use Rattle.std.specs.Option.{option_map}
use Rattle.std.specs.Map.{keys_of}
use Rattle.ras_domain.specs.declared.lock.LockName.{LockName}
use Rattle.ras_domain.specs.declared.lock.LockName.TheVariants.{Collection, Domain, Tile}
use Rattle.ras_domain.specs.declared.lock.Mode.{Mode}
use Rattle.ras_grid.specs.Grid.{grid_box}
use Rattle.ras_syntax.specs.declared.types.SetType.{SetType}
use Rattle.spec_expressions.specs.Database.{Array, Collection as CollectionOf, Database, array_of, collection_of}
use Rattle.ras_domain.specs.Region.{is_in}
use Rattle.spec_statements.specs.Locks.{Lock}
use Rattle.spec_expressions.specs.Shape.{Box}

-- a collection's set type, next identifier and identifiers; an array's domain; the set type of an array's collection, and
-- the points of a grid box that it has with their stored numbers
pub data Seen : Type 0 where
  collection_seen : ℕ → ℕ → List ℕ → Seen
  domain_seen : Box → Seen
  tile_seen : ℕ → List (List ℤ × List ℤ) → Seen

abbrev pub extents_in : Option SetType → List ℕ
extents_in None = []
extents_in (Some of) = of.extents.items

-- the point lies in the grid box at a place; at a place with another number of coordinates than the extents there is none
abbrev pub lies_at : List ℕ → List ℤ → List ℤ → Bool
lies_at extents place p = (length place == length extents) && is_in p (grid_box extents place)

-- what is stored in the grid box at a place
abbrev pub stored_in_tile : List SetType → CollectionOf → List ℤ → Array → Seen
stored_in_tile types collection place array =
    tile_seen collection.set_type
    (filter (λ entry. lies_at (extents_in (slice_get types collection.set_type)) place entry.0) array.stored)

abbrev pub with_array : (CollectionOf → Array → Seen) → ℕ → Option CollectionOf → Option Seen
with_array show id None = None
with_array show id (Some collection) = option_map (show collection) (array_of collection id)

-- what a lock shows, none where there is no such collection or array
abbrev pub look_at : List SetType → LockName → Database → Option Seen
look_at types (Collection name) database =
    option_map (λ collection. collection_seen collection.set_type collection.next (keys_of collection.arrays)) (collection_of database name)
look_at types (Domain name id) database = with_array (λ collection array. domain_seen array.domain) id (collection_of database name)
look_at types (Tile name id place) database =
    with_array (λ collection. stored_in_tile types collection place.items) id (collection_of database name)

-- each lock of the list shows the same of both
abbrev pub Agrees : List SetType → List Lock → Database → Database → Type 0
Agrees types list one other =
    (name : LockName) (mode : Mode) → Contains list (name, mode) → look_at types name one ≡ look_at types name other
