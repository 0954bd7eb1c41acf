-- Which set types, and which lists of them, may be declared.
use Rattle.std.specs.Prelude.{◌≡◌, ◌≢◌, ℕ, ◌*◌, ◌≤◌, ℤ, ◌<ℤ◌, List, [], length, All}
use Rattle.std.specs.List.{fold, AllPairs}
use Rattle.ras_cells.specs.declared.atom.Atom.TheVariants.{Wide}
use Rattle.ras_cells.specs.declared.cell.CellType.{CellType}
use Rattle.ras_cells.specs.declared.cell.CellType.TheVariants as types
use Rattle.ras_cells.specs.Stored.{atoms_of, IsNullSetOf}
use Rattle.ras_domain.specs.declared.TheConstants.{MAX_AXES, MAX_TILE_CELLS}
use Rattle.ras_domain.specs.Region.{HasSmallBounds, IsOrdered}
use Rattle.ras_syntax.specs.declared.types.SetType.{SetType}
use Rattle.ras_syntax.specs.declared.limits.TheConstants.{MAX_TYPES}
use Rattle.ras_cells.specs.declared.TheConstants.{MAX_COMPONENTS, MAX_NULLS}

-- cells of one atom have no names; those of several have 1 to 8 components, each with a name of its own
abbrev pub HasComponents : CellType → List (List ℕ) → Type 0
HasComponents (types.Atom atom) names = names ≡ []
HasComponents (types.Composite atoms) names =
    (1 ≤ length atoms.items) × (length atoms.items ≤ MAX_COMPONENTS) × (length names ≡ length atoms.items) × AllPairs (λ a b. a ≢ b) names

-- each interval ends before the next one begins
abbrev pub AreApart : List (ℤ × ℤ) → Type 0
AreApart = AllPairs (λ a b. a.1 <ℤ b.0)

pub record IsSetType (of : SetType) : Type 0 where
  pub some_axes : 1 ≤ length of.bounds.items
  pub few_axes : length of.bounds.items ≤ MAX_AXES
  pub small_bounds : All HasSmallBounds of.bounds.items
  pub ordered_bounds : All IsOrdered of.bounds.items
  pub each_extent : length of.extents.items ≡ length of.bounds.items
  pub some_extent : All (λ extent. 1 ≤ extent) of.extents.items
  -- of a tile
  pub few_cells : fold ◌*◌ 1 of.extents.items ≤ MAX_TILE_CELLS
  -- wide numbers aren't stored
  pub storable : All (λ atom. atom ≢ Wide) (atoms_of of.cell)
  pub components : HasComponents of.cell of.names
  pub nulls : IsNullSetOf of.cell of.nulls.items
  pub few_nulls : length of.nulls.items ≤ MAX_NULLS
  pub nulls_apart : AreApart of.nulls.items

-- the types of a workload: at most 256, each with a name of its own
pub record AreTypes (types : List SetType) : Type 0 where
  pub each : All IsSetType types
  pub few : length types ≤ MAX_TYPES
  pub names_differ : AllPairs (λ a b. a.name ≢ b.name) types
