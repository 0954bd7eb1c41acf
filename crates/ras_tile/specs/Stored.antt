-- How a tile is stored: a plane a component.
use Rattle.std.specs.Prelude.{◌≡◌, ℕ, ◌≤◌, ◌<◌, ◌⊎◌, ℤ, pos, ◌+ℤ◌, Bool, true, false, List, [], ◌∷◌, length, slice_index_or, All}
use Rattle.ras_cells.specs.declared.TheConstants.{MAX_COMPONENTS}
use Rattle.ras_cells.specs.declared.atom.Atom.{Atom}
use Rattle.ras_domain.specs.declared.region.Interval.{Interval}
use Rattle.ras_domain.specs.Region.{IsRegion, points_of}
use Rattle.ras_domain.specs.declared.TheConstants.{MAX_TILE_CELLS}
use Rattle.ras_tile.specs.declared.plane.Plane.{Plane}
use Rattle.ras_tile.specs.Cells.{AreEqual}
use Rattle.ras_tile.specs.Planes.{cells_in, HasNumbers, IsUniformPlane, IsPlainPlane, IsPackedPlane}

-- the planes of a writable tile are plain ones. Those of another keep one number each where all cells are equal, and
-- else each number in the width of its atom
abbrev pub AreKept : Bool → ℕ → List Atom → List Plane → Type 0
AreKept true n atoms planes = All IsPlainPlane planes
AreKept false n atoms planes =
    All IsUniformPlane planes
    ⊎ (((i : ℕ) (atom : Atom) (plane : Plane) → i < length planes → IsPackedPlane (slice_index_or atoms i atom) (slice_index_or planes i plane)) × (AreEqual (cells_in planes n) → ⊥))

-- these are planes of the cells of a small box, one for each atom
pub record IsStored (box : List Interval) (atoms : List Atom) (writable : Bool) (planes : List Plane) : Type 0 where
  pub region : IsRegion box
  pub few_cells : length (points_of box) ≤ MAX_TILE_CELLS
  pub few_numbers : length atoms ≤ MAX_COMPONENTS
  pub each_atom : length planes ≡ length atoms
  pub whole : All (HasNumbers (length (points_of box))) planes
  pub kept : AreKept writable (length (points_of box)) atoms planes

-- the point that lies k further on along the last axis
abbrev pub along : List ℤ → ℕ → List ℤ
along [] k = []
along (c ∷ []) k = (c +ℤ pos k) ∷ []
along (c ∷ d ∷ p) k = c ∷ along (d ∷ p) k
