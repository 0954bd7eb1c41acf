-- The tiles of a store, and the arrays of a valid database that it keeps.
use Rattle.std.proofs.Common.{◌≡◌, ◌↔◌, ℕ, ℤ, List, length, map, filter, All, Option, Some, None, refl, sym, ap, subst, ◌∙◌}
use Rattle.std.specs.BTreeMap.{get}
use Rattle.std.specs.Cmp.Lexicographic.{slice_cmp}
use Rattle.std.specs.List.{slice_get}
use Rattle.std.specs.Option.{IsSome, option_map}
use Rattle.std.specs.Ordering.{nat_cmp}
use Rattle.std.proofs.lemmas.List.Elements.{All-contains}
use Rattle.std.proofs.lemmas.Map.Lookups.{exact_bytes, exact_unsigned}
use Rattle.std.proofs.lemmas.Map.Views.{Contains-from_lookup, tells_apart}
use Rattle.law_lists.proofs.Each.{slice_get-All}
use Rattle.ras_domain.specs.declared.lock.LockName.TheVariants.{Tile}
use Rattle.ras_domain.specs.Region.{IsIn}
use Rattle.ras_grid.specs.Grid.{Meets, tile_in as part_in}
use Rattle.ras_syntax.specs.declared.types.SetType.{SetType}
use Rattle.ras_tile.specs.Tile.{IsTile, TileValue, tile_cell_at}
use Rattle.ras_store.specs.declared.store.Store.{Store}
use Rattle.ras_store.specs.Databases.{IsArrayThere, Keeps, Place, holding_kept}
use Rattle.ras_store.specs.Kept.{array_in, tile_stored, tile_kept}
use Rattle.ras_store.specs.Store.{store_kept}
use Rattle.ras_store.proofs.KeptTiles.{tile-box, tile-cells, tile-meets}
use Rattle.spec_expressions.specs.Database.{Array, Database, stored_at}
use Rattle.spec_expressions.specs.SetTypes.{AreTypes, IsSetType}
use Rattle.spec_statements.specs.Agree.{extents_in, lies_at, stored_in_tile, tile_seen, with_array}
use Rattle.spec_statements.specs.Validity.{IsArrayOf, IsCollectionOver, IsValidFor}
use Rattle.spec_views.specs.Holdings.{holding_at, holding_in, holding_of}

module _ (types : List SetType) (store : Store) (database : Database) (name : List ℕ) (oid : ℕ) (place : Place)
    (are_types : AreTypes types) (valid : IsValidFor types database) (keeps : Keeps types (store_kept store) database) (of : SetType) (array : Array)
    (there : IsArrayThere types database name oid of array) where
  over : IsCollectionOver types there.collection
  over =
      All-contains (λ entry. IsCollectionOver types entry.1) database (name, there.collection) valid.collections
      (Contains-from_lookup (tells_apart exact_bytes) name there.collection database there.named)

  same_type : over.of ≡ of
  same_type = let both : Some over.of ≡ Some of = sym over.set_type ∙ there.set_type in cc

  fits : IsArrayOf of array
  fits =
      subst (λ t. IsArrayOf t array) same_type
      (All-contains (λ entry. IsArrayOf over.of entry.1) there.collection.arrays (oid, array) over.arrays
      (Contains-from_lookup (tells_apart exact_unsigned) oid array there.collection.arrays there.among))

  is_type : IsSetType of
  is_type = slice_get-All IsSetType types there.collection.set_type of are_types.each there.set_type

  long : length array.domain ≡ length of.extents.items
  long = fits.axes ∙ sym is_type.each_extent

  -- what the database has there
  held : holding_at types (Tile name oid place) database
      ≡ holding_of (tile_seen there.collection.set_type (filter (λ entry. lies_at of.extents.items place.items entry.0) array.stored))
  held =
      ap (λ o. holding_in (with_array (λ collection. stored_in_tile types collection place.items) oid o)) there.named
      ∙ ap (λ o. holding_in (option_map (stored_in_tile types there.collection place.items) o)) there.among
      ∙ ap (λ o. holding_of (tile_seen there.collection.set_type (filter (λ entry. lies_at (extents_in o) place.items entry.0) array.stored))) there.set_type

  tile_there : Option TileValue
  tile_there = tile_stored (array_in (get (slice_cmp nat_cmp) store.contents.collections name) oid) place.items

  some_kept : (t : Option TileValue) → IsSome t ↔ IsSome (option_map tile_kept t)
  some_kept None = (λ some. some, λ some. some)
  some_kept (Some tile) = (λ some. refl, λ some. refl)

  pub stored-places : Meets of.extents.items place.items array.domain ↔ IsSome (store_kept store (Tile name oid place))
  unfolding tile_there
  stored-places =
      let meets = tile-meets of.extents.items array place.items there.collection.set_type fits.region long fits.each_point tile_there (keeps (Tile name oid place) ∙ held) in
      let kept = some_kept tile_there in (
        λ m. kept.0 (meets.0 m),
        λ some. meets.1 (kept.1 some),
      )

  pub stored-box : (tile : TileValue) → IsTile tile → store_kept store (Tile name oid place) ≡ Some (tile_kept tile)
      → tile.region ≡ part_in of.extents.items array.domain place.items
  stored-box tile whole is =
      tile-box of.extents.items array place.items there.collection.set_type fits.region long fits.each_point tile whole
      (ap (option_map holding_kept) (sym is) ∙ keeps (Tile name oid place) ∙ held)

  pub stored-cells : (tile : TileValue) → IsTile tile → store_kept store (Tile name oid place) ≡ Some (tile_kept tile)
      → (p : List ℤ) → IsIn p tile.region → tile_cell_at tile p ≡ stored_at array p
  stored-cells tile whole is =
      tile-cells of.extents.items array place.items there.collection.set_type fits.region long fits.each_point tile whole
      (ap (option_map holding_kept) (sym is) ∙ keeps (Tile name oid place) ∙ held)
