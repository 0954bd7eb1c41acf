use Rattle.std.proofs.Common.{◌≡◌, true, false, Some, sym, ap, subst, ◌∙◌}
use Rattle.std.specs.Arc.{arc_value}
use Rattle.ras_cells.specs.Stored.{default_of}
use Rattle.ras_domain.specs.Region.{IsIn}
use Rattle.ras_tile.specs.Tile.{TileValue, tile_cell_at}
use Rattle.ras_work.proofs.Stored.{stands-inside, stands-outside}
use Rattle.ras_work.proofs.cells.standing_at.Goals as goal

pub returns-then-contains : goal.returns-then-contains
returns-then-contains c =
    let tile : TileValue = arc_value c.in-Some.tile.now in
    let region : c.region.result.now ≡ tile.region = c.region.ensures.region ∙ ap (λ (t : TileValue). t.region) c.deref.ensures in
    let inside : IsIn c.args.p.now.items tile.region = subst (IsIn c.args.p.now.items) region (c.contains.ensures.0 c.if-contains.true) in
    let cell : tile_cell_at tile c.args.p.now.items ≡ Some c.get.result.items =
    subst (λ (t : TileValue). tile_cell_at t c.args.p.now.items ≡ Some c.get.result.items) c.deref-then-contains.ensures c.get.ensures in
    rw c.in-Some.is (stands-inside tile c.args.p.now.items c.get.result.items (default_of c.args.of.now.cell c.args.of.now.nulls).items inside cell)

pub returns-else-contains : goal.returns-else-contains
returns-else-contains c =
    let tile : TileValue = arc_value c.in-Some.tile.now in
    let region : c.region.result.now ≡ tile.region = c.region.ensures.region ∙ ap (λ (t : TileValue). t.region) c.deref.ensures in
    let outside : ¬ IsIn c.args.p.now.items tile.region = λ inside.
    let clash : true ≡ false = sym (c.contains.ensures.1 (subst (IsIn c.args.p.now.items) (sym region) inside)) ∙ c.if-contains.false in cc in
    rw (c.in-Some.is, c.default_cell.ensures) (stands-outside tile c.args.p.now.items (default_of c.args.of.now.cell c.args.of.now.nulls).items outside)
