-- Databases. A finite map is a list of entries whose keys ascend.
use Rattle.std.specs.Prelude.{ℕ, ℤ, List, Option}
use Rattle.std.specs.Map.{lookup}
use Rattle.std.specs.Ordering.{int_cmp, nat_cmp, is_eq}
use Rattle.std.specs.Cmp.Lexicographic.{slice_cmp}
use Rattle.ras_domain.specs.declared.region.Interval.{Interval}
use Rattle.ras_syntax.specs.declared.types.SetType.{SetType}

-- a domain, and the stored numbers of each of its points in row-major order
pub record Array : Type 0 where
  pub domain : List Interval
  pub stored : List (List ℤ × List ℤ)

-- the numbers that are stored at a point
abbrev pub stored_at : Array → List ℤ → Option (List ℤ)
stored_at array p = lookup (λ q. is_eq (slice_cmp int_cmp p q)) array.stored

-- the place of the set type among the types, the next object identifier, and the arrays by their identifiers
pub record Collection : Type 0 where
  pub set_type : ℕ
  pub next : ℕ
  pub arrays : List (ℕ × Array)

-- the collections by their names
abbrev pub Database : Type 0
Database = List (List ℕ × Collection)

abbrev pub collection_of : Database → List ℕ → Option Collection
collection_of database name = lookup (λ other. is_eq (slice_cmp nat_cmp name other)) database

abbrev pub array_of : Collection → ℕ → Option Array
array_of collection oid = lookup (λ other. is_eq (nat_cmp oid other)) collection.arrays

-- ---- rows

-- the array that an iterator stands for in a row
pub record Member : Type 0 where
  pub iterator : List ℕ
  pub oid : ℕ
  pub of : SetType
  pub array : Array
