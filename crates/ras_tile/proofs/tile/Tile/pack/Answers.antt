use Rattle.std.proofs.Common.{◌≡◌, ◌<◌, false, length, ◌∙◌, ap, sym, arith, All}
use Rattle.ras_cells.specs.Atoms.{AreInRange}
use Rattle.ras_cells.specs.Stored.{atoms_of}
use Rattle.ras_domain.specs.Region.{points_of}
use Rattle.ras_tile.specs.Planes.{cell_of_planes, cells_in}
use Rattle.ras_tile.proofs.Tiles.{IsStored-packed_planes, IsTile-stored, tile_of-packed, some_points, in_range_at, length-in_range}
use Rattle.ras_tile.proofs.tile.Tile.pack.Goals as goal

-- there is a cell
some : (c : goal.After-atoms) → 0 < length (points_of c.self.inside.region)
some c = some_points c.self.inside.region c.self.invariant.region

-- the numbers are in range
range : (c : goal.After-atoms) → All (AreInRange (atoms_of c.args.of.now)) (cells_in c.self.inside.planes.items (length (points_of c.self.inside.region)))
range c = rw (← c.self.view_is) at c.requires

pub packed-requires-clause-some : goal.packed-requires-clause-some
packed-requires-clause-some c = omega (arith, some c, c.volume-cells.ensures)

pub packed-requires-clause-each_atom : goal.packed-requires-clause-each_atom
packed-requires-clause-each_atom c =
    rw (c.as_slice.ensures.value, c.atoms.ensures.atoms)
    (length-in_range (atoms_of c.args.of.now) c.self.inside.planes.items (length (points_of c.self.inside.region)) (range c) (some c))

pub packed-requires-clause-range : goal.packed-requires-clause-range
packed-requires-clause-range c =
    rw (c.as_slice.ensures.value, c.atoms.ensures.atoms)
    (λ k below.
    in_range_at (atoms_of c.args.of.now) c.self.inside.planes.items (length (points_of c.self.inside.region)) k (range c) (omega (arith, c.volume-cells.ensures)))

-- there are as many planes as atoms
long : (c : goal.After-atoms_in) → length c.in_ok-planes.planes.items ≡ length (atoms_of c.args.of.now)
long c =
    c.in_ok-planes.ensures.long ∙ ap length c.as_slice.ensures.value
    ∙ length-in_range (atoms_of c.args.of.now) c.self.inside.planes.items (length (points_of c.self.inside.region)) (rw (← c.self.view_is) at c.requires)
    (some_points c.self.inside.region c.self.invariant.region)

pub invariant_of-result : goal.invariant_of-result
invariant_of-result c =
    rw (c.copy_of.ensures, c.atoms_in.ensures, c.atoms-2.ensures.atoms)
    (IsStored-packed_planes c.self.inside.region (atoms_of c.args.of.now) c.in_ok-planes.planes.items c.volume-cells.result c.self.invariant.region
    c.self.invariant.few_cells c.atoms.ensures.few (long c)
    c.volume-cells.ensures c.in_ok-planes.ensures.whole (rw c.atoms.ensures.atoms at c.in_ok-planes.ensures.kept))

pub returns-clause-packed : goal.returns-clause-packed
returns-clause-packed c =
    rw (c.copy_of.ensures, c.atoms_in.ensures, c.atoms-2.ensures.atoms, ← c.self.view_is)
    (tile_of-packed c.self.inside.region c.self.inside.atoms.items (atoms_of c.args.of.now) c.self.inside.planes.items c.in_ok-planes.planes.items c.self.inside.writable
    (sym (long c) ∙ c.in_ok-planes.ensures.long ∙ ap length c.as_slice.ensures.value ∙ c.self.invariant.each_atom)
    (λ k below. c.in_ok-planes.ensures.cells k (omega (arith, c.volume-cells.ensures)) ∙ ap (λ planes. cell_of_planes planes k) c.as_slice.ensures.value))

pub returns-clause-tile : goal.returns-clause-tile
returns-clause-tile c = IsTile-stored c.copy_of.result c.atoms_in.result.items c.in_ok-planes.planes.items false (invariant_of-result c)
