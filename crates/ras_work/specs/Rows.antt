-- The changes of one array that is written.
use Rattle.std.specs.Prelude.{◌≡◌, ℕ, ℤ, if◌then◌else◌, List, [], ◌++◌, map, filter, length}
use Rattle.ras_domain.specs.declared.lock.LockName.TheVariants.{Domain}
use Rattle.ras_domain.specs.Boxes.{Covers, is_same_box}
use Rattle.ras_domain.specs.Region.{IsRegion, points_of}
use Rattle.ras_grid.specs.Grid.{places_meeting}
use Rattle.ras_store.specs.declared.write.Write.{Write}
use Rattle.ras_store.specs.Databases.{holdings_of}
use Rattle.ras_store.specs.View.{view_kept}
use Rattle.ras_syntax.specs.declared.types.SetType.{SetType}
use Rattle.spec_expressions.specs.Shape.{Box}
use Rattle.law_work.specs.ChangesFor.{held_domain, domain_replaced, is_grown_place, places_changed, tile_replaced}
use Rattle.law_work.specs.Replacements.{Replacement}
use Rattle.law_work.specs.Writes.{stores_of_write}
use Rattle.ras_work.specs.declared.rows.Row.{Row}
use Rattle.ras_work.specs.Stores.{store_by}

-- what the tile at a place replaces
abbrev pub row_tile : Row → List ℤ → Replacement
row_tile row =
    tile_replaced row.of.now row.name.now row.oid row.write.now.grown (stores_of_write (store_by row.rule row.of.now) row.write.now)
    (holdings_of (view_kept row.view.now))

abbrev pub row_tiles : Row → List (List ℤ) → List Replacement
row_tiles row places = map (row_tile row) places

-- what a row replaces, where the array has this domain
abbrev pub row_changes : Row → Box → List Replacement
row_changes row old =
    domain_replaced row.name.now row.oid old row.write.now.grown
    ++ row_tiles row (places_changed row.of.now.extents.items old row.write.now.grown row.write.now.region)

-- the domain of a row's array
abbrev pub row_domain : Row → Box
row_domain row = held_domain (holdings_of (view_kept row.view.now) (Domain row.name.now row.oid))

-- the places of the tiles whose box changes, and which the region doesn't meet
abbrev pub places_grown : List ℕ → Box → Box → Box → List (List ℤ)
places_grown extents old grown region = if is_same_box old grown then [] else filter (is_grown_place extents old grown region) (places_meeting extents grown)

-- a write is one of an array of this type on a domain
pub record IsFitting (of : SetType) (write : Write) (old : Box) : Type 0 where
  pub region : IsRegion write.region
  pub region_axes : length write.region ≡ length of.extents.items
  pub grown_axes : length write.grown ≡ length of.extents.items
  pub old_axes : length old ≡ length of.extents.items
  pub each_point : length write.cells.cells ≡ length (points_of write.region)
  pub covers : Covers write.grown old
