-- What is stored at a point.
use Rattle.std.proofs.Common.{◌≡◌, ℕ, ℤ, Bool, true, false, cond, List, map, Option, Some, None, Result, Ok, Err, refl, sym, ap, ◌∙◌, subst}
use Rattle.std.specs.List.{slice_get, zip}
use Rattle.ras_cells.specs.declared.cell.Cell.{Cell}
use Rattle.ras_cells.specs.declared.cell.Cell.TheVariants.{Value}
use Rattle.ras_cells.specs.declared.cell.CellFault.{CellFault}
use Rattle.ras_cells.specs.declared.cell.CellFault.TheVariants.{CastRange}
use Rattle.ras_cells.specs.declared.cell.CellType.{CellType}
use Rattle.ras_cells.specs.Atoms.{AreInRange, are_in_range}
use Rattle.ras_cells.specs.Stored.{NullSet, Numbers, atoms_of, stored_of}
use Rattle.ras_cells.proofs.Ranges.{AreInRange-are_in_range}
use Rattle.ras_domain.specs.Region.{IsIn, place_in_rows, points_of}
use Rattle.ras_store.specs.declared.write.Write.{Write}
use Rattle.ras_tile.specs.Tile.{TileValue, tile_cell_at}
use Rattle.spec_expressions.specs.Database.{stored_at}
use Rattle.spec_statements.specs.Effects.{option_flat, or_else, store_for}
use Rattle.spec_views.specs.Holdings.{tile_held}
use Rattle.law_work.specs.ChangesFor.{array_held}
use Rattle.law_work.specs.Writes.{numbers_stored, stores_of_write}
use Rattle.ras_tile.proofs.RowPlaces.{slice_get-place}
use Rattle.ras_work.proofs.Pairs.{outside-lookup, points-lookup, slice_get-map}

-- numbers that are stored fit the type
pub stored-fits : (of : CellType) (nulls : NullSet) (numbers fit : Numbers) → (let r : Result Numbers CellFault = Ok fit in r ≡ stored_of (Value numbers) of nulls)
    → AreInRange (atoms_of of) fit.items
stored-fits of nulls numbers fit is = at (are_in_range (atoms_of of) numbers.items) refl is
  where
    at : (b : Bool) → are_in_range (atoms_of of) numbers.items ≡ b → (let r : Result Numbers CellFault = Ok fit in r ≡ cond b (Ok numbers) (Err CastRange)) → AreInRange (atoms_of of) fit.items
    at true passes is = let same : numbers ≡ fit = cc in subst (λ (n : Numbers). AreInRange (atoms_of of) n.items) same ((AreInRange-are_in_range (atoms_of of) numbers.items).0 passes)
    at false fails is = absurd (cc)

module _ (store : Cell → Result (Option (List ℤ)) CellFault) (write : Write) where
  -- nothing is stored outside the region
  pub store-outside : (p : List ℤ) → ¬ IsIn p write.region → None ≡ store_for p (stores_of_write store write)
  store-outside p outside = sym (ap option_flat (outside-lookup write.region (map (λ cell. numbers_stored (store cell)) write.cells.cells) p outside))

  -- and inside what the cell at its place is stored as
  pub store-inside : (p : List ℤ) (place : ℕ) (cell : Cell) → slice_get (points_of write.region) place ≡ Some p → slice_get write.cells.cells place ≡ Some cell
      → store_for p (stores_of_write store write) ≡ numbers_stored (store cell)
  store-inside p place cell at has =
      ap option_flat (points-lookup write.region (map (λ cell. numbers_stored (store cell)) write.cells.cells) place p at
      ∙ slice_get-map (λ cell. numbers_stored (store cell)) write.cells.cells place cell has)

-- what stands in a tile
pub stands-inside : (tile : TileValue) (p numbers default : List ℤ) → IsIn p tile.region → tile_cell_at tile p ≡ Some numbers
    → numbers ≡ or_else (stored_at (array_held (Some (tile_held (zip (points_of tile.region) tile.cells)))) p) default
stands-inside tile p numbers default inside cell =
    sym (ap (λ o. or_else o default) (points-lookup tile.region tile.cells (place_in_rows tile.region p) p (slice_get-place tile.region p inside) ∙ cell))

pub stands-outside : (tile : TileValue) (p default : List ℤ) → ¬ IsIn p tile.region
    → default ≡ or_else (stored_at (array_held (Some (tile_held (zip (points_of tile.region) tile.cells)))) p) default
stands-outside tile p default outside = sym (ap (λ o. or_else o default) (outside-lookup tile.region tile.cells p outside))
