-- Tiles: boxes of points with a list of numbers at each point.
use Rattle.std.specs.Prelude.{◌≡◌, ℕ, ℤ, ◌≤◌, Bool, true, false, List, length, replicate, slice_get, Option, All}
use Rattle.ras_cells.specs.declared.TheConstants.{MAX_COMPONENTS}
use Rattle.ras_cells.specs.declared.atom.Atom.{Atom}
use Rattle.ras_cells.specs.declared.atom.Atom.TheVariants.{Wide}
use Rattle.ras_domain.specs.declared.region.Interval.{Interval}
use Rattle.ras_domain.specs.Region.{IsRegion, points_of, place_in_rows}
use Rattle.ras_domain.specs.declared.TheConstants.{MAX_TILE_CELLS}

-- a box, how many numbers each cell has, the cells of the box's points in row-major order, and whether they may be written.
-- `atoms` are those of the type that the tile was packed as, or that the tile it is a copy of was: `Wide` for each
-- component where it never was
pub record TileValue : Type 0 where
  pub region : List Interval
  pub width : ℕ
  pub atoms : List Atom
  pub cells : List (List ℤ)
  pub writable : Bool

-- the cell at a point of the box
abbrev pub tile_cell_at : TileValue → List ℤ → Option (List ℤ)
tile_cell_at tile p = slice_get tile.cells (place_in_rows tile.region p)

-- the box is a small region, and each of its points has a cell of as many numbers as the tile's width
pub record IsTile (tile : TileValue) : Type 0 where
  pub box : IsRegion tile.region
  pub few_cells : length (points_of tile.region) ≤ MAX_TILE_CELLS
  pub few_numbers : tile.width ≤ MAX_COMPONENTS
  pub each_atom : length tile.atoms ≡ tile.width
  pub each_point : length tile.cells ≡ length (points_of tile.region)
  pub each_width : All (λ cell. length cell ≡ tile.width) tile.cells

-- the writable tile on a box that has these numbers at each point
abbrev pub filled_tile : List Interval → List ℤ → TileValue
filled_tile box numbers = record {
  region = box;
  width = length numbers;
  atoms = replicate (length numbers) Wide;
  cells = replicate (length (points_of box)) numbers;
  writable = true;
}

-- the tile that keeps its numbers in the widths of these atoms; it isn't writable
abbrev pub packed_tile : List Atom → TileValue → TileValue
packed_tile atoms tile = record tile { atoms = atoms; writable = false }
