use Rattle.std.proofs.Common.{true, length, replicate, ◌∙◌, ap, arith}
use Rattle.std.proofs.lemmas.List.{length-replicate}
use Rattle.ras_cells.specs.declared.atom.Atom.TheVariants.{Wide}
use Rattle.ras_tile.proofs.Tiles.{IsStored-plain_planes, IsTile-stored, tile_of-filled}
use Rattle.ras_tile.proofs.tile.Tile.filled.Goals as goal

pub invariant_of-result : goal.invariant_of-result
invariant_of-result c =
    IsStored-plain_planes c.args.region c.wide.result.items c.in_ok-planes.planes.items c.volume-cells.result (λ _. c.args.n.now.items) c.axes-axes.ensures.region c.requires.few_cells
    (omega (arith, ap length c.wide.ensures, length-replicate c.len.result Wide, c.len.ensures.fits))
    (omega (arith, ap length c.wide.ensures, length-replicate c.len.result Wide, c.len.ensures.value, c.in_ok-planes.ensures.long, ap length c.as_slice.ensures.value))
    c.volume-cells.ensures (rw c.as_slice.ensures.value at c.in_ok-planes.ensures.planes)

pub returns-clause-filled : goal.returns-clause-filled
returns-clause-filled c =
    tile_of-filled c.args.region c.args.n.now.items c.wide.result.items c.in_ok-planes.planes.items (c.wide.ensures ∙ ap (λ width. replicate width Wide) c.len.ensures.value)
    (λ k below. c.in_ok-planes.ensures.planes.cells k (omega (arith, c.volume-cells.ensures)) ∙ c.as_slice.ensures.value)

pub returns-clause-tile : goal.returns-clause-tile
returns-clause-tile c = IsTile-stored c.args.region c.wide.result.items c.in_ok-planes.planes.items true (invariant_of-result c)
