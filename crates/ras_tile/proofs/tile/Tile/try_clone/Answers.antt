use Rattle.std.proofs.Common.{true, length, ◌∙◌, ap, arith}
use Rattle.ras_tile.proofs.Tiles.{IsStored-plain_planes, IsTile-stored, tile_of-copied}
use Rattle.ras_tile.specs.Planes.{cell_of_planes}
use Rattle.ras_tile.proofs.tile.Tile.try_clone.Goals as goal

pub invariant_of-result : goal.invariant_of-result
invariant_of-result c =
    rw (c.copy_of.ensures, c.atoms_in.ensures, c.as_slice-2.ensures.value)
    (IsStored-plain_planes c.self.inside.region c.self.inside.atoms.items c.in_ok-planes.planes.items c.volume-cells.result (cell_of_planes c.as_slice.result.now) c.self.invariant.region
    c.self.invariant.few_cells c.self.invariant.few_numbers
    (omega (arith, c.in_ok-planes.ensures.long, ap length c.as_slice.ensures.value, c.self.invariant.each_atom))
    c.volume-cells.ensures c.in_ok-planes.ensures.planes)

pub returns-clause-copy : goal.returns-clause-copy
returns-clause-copy c =
    rw (c.copy_of.ensures, c.atoms_in.ensures, c.as_slice-2.ensures.value, ← c.self.view_is)
    (tile_of-copied c.self.inside.region c.self.inside.atoms.items c.self.inside.planes.items c.in_ok-planes.planes.items c.self.inside.writable true
    (λ k below. c.in_ok-planes.ensures.planes.cells k (omega (arith, c.volume-cells.ensures)) ∙ ap (λ planes. cell_of_planes planes k) c.as_slice.ensures.value))

pub returns-clause-tile : goal.returns-clause-tile
returns-clause-tile c = IsTile-stored c.copy_of.result c.atoms_in.result.items c.in_ok-planes.planes.items true (invariant_of-result c)
