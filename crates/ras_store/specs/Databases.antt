-- Which database is kept, and what changes make of it. The words are those of what a transaction sees.
use Rattle.std.specs.Prelude.{◌≡◌, ℕ, ℤ, List, slice_get, Option, Some, None, option_map}
use Rattle.std.specs.List.{zip}
use Rattle.std.specs.Map.{keys_of}
use Rattle.arrayvec.specs.ArrayVec.{ArrayVec}
use Rattle.ras_domain.specs.Region.{points_of}
use Rattle.ras_domain.specs.declared.lock.LockName.{LockName}
use Rattle.ras_syntax.specs.declared.types.SetType.{SetType}
use Rattle.ras_store.specs.declared.change.Change.{Change}
use Rattle.ras_store.specs.declared.collection.CollectionInfo.{CollectionInfo}
use Rattle.ras_store.specs.Kept.{Kept, all_changed_as, collection_kept, domain_kept, tile_kept}
use Rattle.spec_expressions.specs.Database.{Array, Collection, Database, array_of, collection_of}
use Rattle.spec_views.specs.Holdings.{Holding, Holdings, collection_held, domain_held, holding_at, tile_held}
use Rattle.spec_views.specs.Work.{Rewrites}

-- of a tile, its points with their stored numbers
abbrev pub holding_kept : Kept → Holding
holding_kept (collection_kept info) = collection_held info.set_type info.next info.oids
holding_kept (domain_kept domain) = domain_held domain
holding_kept (tile_kept tile) = tile_held (zip (points_of tile.region) tile.cells)

abbrev pub holdings_of : (LockName → Option Kept) → Holdings
holdings_of kept name = option_map holding_kept (kept name)

-- under the name of each lock is kept just what the database has there, over these types. So what is kept is seen as that
-- database: there is a tile at each place at which an array has points, with just these points, and no other tile
abbrev pub Keeps : List SetType → (LockName → Option Kept) → Database → Type 0
Keeps types kept database = (name : LockName) → holdings_of kept name ≡ holding_at types name database

-- what changes make of a database, name by name
abbrev pub rewrites_of : List Change → Rewrites
rewrites_of changes = all_changed_as holding_kept changes

-- ---- look-ups in a database

-- what is told of a collection beside its arrays' domains and cells
abbrev pub info_of : Collection → CollectionInfo
info_of collection = record { set_type = collection.set_type; next = collection.next; oids = keys_of collection.arrays }

abbrev pub array_among : Option Collection → ℕ → Option Array
array_among None oid = None
array_among (Some collection) oid = array_of collection oid

abbrev pub array_named : Database → List ℕ → ℕ → Option Array
array_named database name oid = array_among (collection_of database name) oid

-- the array of this name and identifier, and the set type of its collection
pub record IsArrayThere (types : List SetType) (database : Database) (name : List ℕ) (oid : ℕ) (of : SetType) (array : Array) : Type 0 where
  pub collection : Collection
  pub named : collection_of database name ≡ Some collection
  pub set_type : slice_get types collection.set_type ≡ Some of
  pub among : array_of collection oid ≡ Some array

-- a place in the grid, as locks name it
abbrev pub Place : Type 0
Place = ArrayVec ℤ
