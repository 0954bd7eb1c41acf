-- Databases that are valid for a list of types.
use Rattle.std.specs.Prelude.{◌≡◌, ℕ, ◌*◌, ◌<◌, ◌≤◌, List, map, length, slice_get, Some, IfSome, All, IsTrue}
use Rattle.std.specs.List.Sorted.{IsStrictlySortedBy}
use Rattle.std.specs.Map.{keys_of}
use Rattle.std.specs.Ordering.{nat_cmp}
use Rattle.std.specs.Cmp.Lexicographic.{slice_cmp}
use Rattle.ras_cells.specs.Atoms.{AreInRange}
use Rattle.ras_cells.specs.Stored.{atoms_of}
use Rattle.ras_domain.specs.Region.{IsRegion, points_of, volume_of}
use Rattle.ras_syntax.specs.declared.types.SetType.{SetType}
use Rattle.spec_statements.specs.Plans.{tile_count}
use Rattle.spec_expressions.specs.Database.{Array, Collection, Database, collection_of}
use Rattle.ras_domain.specs.Boxes.{lies_in}
use Rattle.ras_syntax.specs.declared.limits.TheConstants.{MAX_TILES, MAX_STORED_NUMBERS, MAX_IDENTIFIER}

-- an array of a set type
pub record IsArrayOf (of : SetType) (array : Array) : Type 0 where
  pub region : IsRegion array.domain
  pub axes : length array.domain ≡ length of.bounds.items
  pub within_bounds : IsTrue (lies_in array.domain of.bounds.items)
  pub few_numbers : volume_of array.domain * length (atoms_of of.cell) ≤ MAX_STORED_NUMBERS
  pub few_tiles : tile_count of.extents.items array.domain ≤ MAX_TILES
  pub each_point : map (λ entry. entry.0) array.stored ≡ points_of array.domain
  pub in_range : All (λ entry. AreInRange (atoms_of of.cell) entry.1) array.stored

-- a collection over the types; each identifier was given out
pub record IsCollectionOver (types : List SetType) (collection : Collection) : Type 0 where
  pub of : SetType
  pub set_type : slice_get types collection.set_type ≡ Some of
  pub some_next : 1 ≤ collection.next
  pub ordered : IsStrictlySortedBy nat_cmp (keys_of collection.arrays)
  pub identifiers : All (λ entry. (1 ≤ entry.0) × (entry.0 < collection.next)) collection.arrays
  pub arrays : All (λ entry. IsArrayOf of entry.1) collection.arrays

pub record IsValidFor (types : List SetType) (database : Database) : Type 0 where
  pub ordered : IsStrictlySortedBy (slice_cmp nat_cmp) (keys_of database)
  pub collections : All (λ entry. IsCollectionOver types entry.1) database

-- no collection gives out an identifier beyond a bound next, so each one given out before is less
abbrev pub HasIdentifiersUpTo : ℕ → Database → Type 0
HasIdentifiersUpTo bound database = All (λ entry. entry.1.next ≤ bound) database

-- the collection of a name, if there is one, gives out numbers of 64 bits
abbrev pub HasSmallNext : Database → List ℕ → Type 0
HasSmallNext database name = IfSome (collection_of database name) (λ collection. collection.next ≤ MAX_IDENTIFIER)
