use Rattle.std.proofs.Common.{◌≡◌, ◌++◌, ◌∷◌, [], map, Option, Some, ap, ◌∙◌}
use Rattle.std.specs.Arc.{arc_value}
use Rattle.std.specs.List.{zip}
use Rattle.std.specs.Option.{option_copied, option_map}
use Rattle.ras_domain.specs.Region.{points_of}
use Rattle.ras_domain.specs.declared.lock.LockName.TheVariants.{Tile}
use Rattle.ras_grid.specs.Grid.{tile_in}
use Rattle.ras_store.specs.declared.change.Change.{Change}
use Rattle.ras_store.specs.declared.change.Change.TheVariants.{Tile as TileChange}
use Rattle.ras_store.specs.Databases.{holding_kept, holdings_of}
use Rattle.ras_store.specs.View.{view_kept}
use Rattle.ras_syntax.specs.declared.types.SetType.{SetType}
use Rattle.ras_tile.specs.Tile.{TileValue}
use Rattle.spec_expressions.specs.Shape.{Box}
use Rattle.spec_statements.specs.Effects.{Stores}
use Rattle.spec_views.specs.Holdings.{Holding, tile_held}
use Rattle.law_work.specs.ChangesFor.{tile_after, tile_name}
use Rattle.law_work.specs.Replacements.{replacement_of}
use Rattle.law_work.specs.Writes.{stores_of_write}
use Rattle.ras_work.specs.Rows.{row_tile}
use Rattle.ras_work.specs.Stores.{store_by, tile_held_of}
use Rattle.ras_work.proofs.Changed.{on_ok, one_more, written-tile}
use Rattle.ras_work.proofs.rows.add_tile.Goals as goal

pub returns : goal.returns
returns c =
    let of : SetType = c.args.row.now.of.now in
    let change : Change = TileChange c.in_ok-name.name c.args.row.now.oid c.in_ok-place.place (Some c.in_ok-tile-2.tile) in
    let before : Option Holding = tile_held_of (option_copied c.tile_of-old.result) in
    let stores : Stores = stores_of_write (store_by c.args.row.now.rule of) c.args.row.now.write.now in
    let box : Box = tile_in of.extents.items c.args.row.now.write.now.grown c.args.place.now.items in
    let seen : before ≡ holdings_of (view_kept c.args.row.now.view.now) (tile_name c.args.row.now.name.now c.args.row.now.oid c.args.place.now.items) =
    ap (option_map holding_kept) c.tile_of-old.ensures in
    let held : (let t : TileValue = arc_value c.in_ok-tile-2.tile in Some (tile_held (zip (points_of t.region) t.cells)))
    ≡ tile_after of (holdings_of (view_kept c.args.row.now.view.now) (tile_name c.args.row.now.name.now c.args.row.now.oid c.args.place.now.items)) stores box =
    ap (λ (t : TileValue). Some (tile_held (zip (points_of t.region) t.cells))) c.in_ok-tile-2.ensures.ok
    ∙ written-tile of c.args.row.now.rule c.args.row.now.write.now before c.in-Some.region c.in_ok-tile.tile c.in_ok-tile.ensures
    ∙ ap (tile_after of before stores) c.in-Some.ensures.common
    ∙ ap (λ h. tile_after of h stores box) seen in
    let whole : replacement_of change ≡ row_tile c.args.row.now c.args.place.now.items =
    λ i. (Tile (c.in_ok-name.ensures i) c.args.row.now.oid (c.in_ok-place.ensures i), held i) in
    on_ok c.add.result (c.add.new.changes ≡ c.args.changes.now ++ change ∷ [])
    (map replacement_of c.add.new.changes ≡ map replacement_of c.args.changes.now ++ row_tile c.args.row.now c.args.place.now.items ∷ [])
    (one_more c.args.changes.now c.add.new.changes change (row_tile c.args.row.now c.args.place.now.items) whole) c.add.ensures
