use Rattle.std.proofs.Common.{◌≡◌, subst, Some, length, sym, ap, arith}
use Rattle.std.proofs.lemmas.List.{with_items_is}
use Rattle.std.specs.Vec.{with_items}
use Rattle.ras_domain.specs.Region.{IsIn, points_of}
use Rattle.ras_tile.specs.Tile.{TileValue, IsTile, tile_cell_at}
use Rattle.ras_tile.proofs.Tiles.{IsTile-stored, IsStored-written, tile_of-set, cell_at-set, cell_at-set_other}
use Rattle.ras_tile.proofs.tile.Tile.set.Goals as goal

-- the planes after the write
planes_are : (c : goal.After-self-1) → (with_items c.self.inside.planes c.write_cell.new.planes).items ≡ c.write_cell.new.planes
planes_are c = with_items_is c.self.inside.planes c.write_cell.new.planes (omega (arith, c.as_mut_slice.ensures.len))

pub invariant_of-self : goal.invariant_of-self
invariant_of-self c =
    let writable = rw (← c.self.view_is) at c.requires.writable in
    rw (planes_are c)
    (IsStored-written c.write_cell.new.planes c.self.inside.writable writable c.self.invariant (omega (arith, ap length c.as_mut_slice.ensures.value)) c.write_cell.ensures.plain
    (c.write_cell.ensures.whole (length (points_of c.self.inside.region)) (rw c.as_mut_slice.ensures.value c.self.invariant.whole)))

pub returns-clause-written : goal.returns-clause-written
returns-clause-written c =
    let inside : IsIn c.args.p.now.items c.self.inside.region = rw (← c.self.view_is) at c.requires.within in
    let written = rw (c.as_slice.ensures.value, c.row_place-place.ensures.before) at c.write_cell.ensures.written in
    let others = rw (c.as_mut_slice.ensures.value, c.row_place-place.ensures.before) at c.write_cell.ensures.others in
    rw (← c.self.view_is, planes_are c)
    (tile_of-set c.self.inside.region c.self.inside.atoms.items c.self.inside.planes.items c.write_cell.new.planes c.args.p.now.items c.args.n.now.items c.self.inside.writable inside written others)

-- the tile as it was
was : (c : goal.After-self-1) → IsTile c.args.self.now
was c =
    rw (← c.self.view_is) (IsTile-stored c.self.inside.region c.self.inside.atoms.items c.self.inside.planes.items c.self.inside.writable c.self.invariant)

pub returns-clause-cell : goal.returns-clause-cell
returns-clause-cell c =
    subst (λ (tile : TileValue). tile_cell_at tile c.args.p.now.items ≡ Some c.args.n.now.items) (sym (returns-clause-written c))
    (cell_at-set c.args.self.now c.args.p.now.items c.args.n.now.items (was c) c.requires.within)

pub returns-clause-others : goal.returns-clause-others
returns-clause-others c =
    λ q here differ.
    subst (λ (tile : TileValue). tile_cell_at tile q ≡ tile_cell_at c.args.self.now q) (sym (returns-clause-written c))
    (cell_at-set_other c.args.self.now c.args.p.now.items q c.args.n.now.items c.requires.within here differ)

pub returns-clause-tile : goal.returns-clause-tile
returns-clause-tile c =
    IsTile-stored c.self.inside.region c.self.inside.atoms.items (with_items c.self.inside.planes c.write_cell.new.planes).items c.self.inside.writable (invariant_of-self c)
