-- Planes: the numbers of one component of a tile's cells, as they are kept.
use Rattle.std.specs.Prelude.{◌≡◌, ◌≤◌, ◌<◌, ◌⊎◌, ℕ, ℤ, pos, List, map, length, slice_index_or, All}
use Rattle.std.specs.List.{range_with_len}
use Rattle.ras_cells.specs.declared.atom.Atom.{Atom}
use Rattle.ras_cells.specs.declared.atom.Atom.TheVariants.{Bool, Octet, Char, Short, Ushort, Long, Ulong, Wide}
use Rattle.ras_tile.specs.declared.plane.Plane.{Plane}
use Rattle.ras_tile.specs.declared.plane.Plane.TheVariants.{Uniform, U8, I8, U16, I16, U32, I32, Plain}

-- the number at a place of a list
abbrev pub listed_number : List ℤ → ℕ → ℤ
listed_number numbers k = slice_index_or numbers k (pos 0)

-- the number of the cell at a place
abbrev pub plane_number : Plane → ℕ → ℤ
plane_number (Uniform number) k = number
plane_number (U8 bytes) k = listed_number (map pos bytes.items) k
plane_number (I8 bytes) k = listed_number bytes.items k
plane_number (U16 shorts) k = listed_number (map pos shorts.items) k
plane_number (I16 shorts) k = listed_number shorts.items k
plane_number (U32 longs) k = listed_number (map pos longs.items) k
plane_number (I32 longs) k = listed_number longs.items k
plane_number (Plain numbers) k = listed_number numbers.items k

-- the cell at a place
abbrev pub cell_of_planes : List Plane → ℕ → List ℤ
cell_of_planes planes k = map (λ plane. plane_number plane k) planes

-- the first n cells
unfoldable pub cells_in : List Plane → ℕ → List (List ℤ)
cells_in planes n = map (cell_of_planes planes) (range_with_len 0 n)

-- ---- how many numbers a plane has

-- a number for each of n cells; one that is kept as one number has any number of them
abbrev pub HasNumbers : ℕ → Plane → Type 0
HasNumbers n (Uniform number) = Unit {0}
HasNumbers n (U8 bytes) = length bytes.items ≡ n
HasNumbers n (I8 bytes) = length bytes.items ≡ n
HasNumbers n (U16 shorts) = length shorts.items ≡ n
HasNumbers n (I16 shorts) = length shorts.items ≡ n
HasNumbers n (U32 longs) = length longs.items ≡ n
HasNumbers n (I32 longs) = length longs.items ≡ n
HasNumbers n (Plain numbers) = length numbers.items ≡ n

-- a number for each of the first n cells
abbrev pub Reaches : ℕ → Plane → Type 0
Reaches n (Uniform number) = Unit {0}
Reaches n (U8 bytes) = n ≤ length bytes.items
Reaches n (I8 bytes) = n ≤ length bytes.items
Reaches n (U16 shorts) = n ≤ length shorts.items
Reaches n (I16 shorts) = n ≤ length shorts.items
Reaches n (U32 longs) = n ≤ length longs.items
Reaches n (I32 longs) = n ≤ length longs.items
Reaches n (Plain numbers) = n ≤ length numbers.items

-- ---- how a plane is kept

-- one number stands for all
abbrev pub IsUniformPlane : Plane → Type 0
IsUniformPlane (Uniform number) = Unit {0}
IsUniformPlane plane = ⊥

-- each number takes 64 bits
abbrev pub IsPlainPlane : Plane → Type 0
IsPlainPlane (Plain numbers) = Unit {0}
IsPlainPlane plane = ⊥

-- each number takes as many bytes as the range of its atom asks for
abbrev pub IsPackedPlane : Atom → Plane → Type 0
IsPackedPlane atom (Uniform number) = ⊥
IsPackedPlane atom (U8 bytes) = (atom ≡ Bool) ⊎ (atom ≡ Char)
IsPackedPlane atom (I8 bytes) = atom ≡ Octet
IsPackedPlane atom (U16 shorts) = atom ≡ Ushort
IsPackedPlane atom (I16 shorts) = atom ≡ Short
IsPackedPlane atom (U32 longs) = atom ≡ Ulong
IsPackedPlane atom (I32 longs) = atom ≡ Long
IsPackedPlane atom (Plain numbers) = atom ≡ Wide

-- these planes have n of these cells, and each is kept so
pub record ArePlanes (n : ℕ) (kept : ℕ → Plane → Type 0) (cell : ℕ → List ℤ) (planes : List Plane) : Type 0 where
  pub cells : (k : ℕ) → k < n → cell_of_planes planes k ≡ cell k
  pub whole : All (HasNumbers n) planes
  pub kinds : (i : ℕ) (plane : Plane) → i < length planes → kept i (slice_index_or planes i plane)
