use Rattle.std.proofs.Common.{◌≡◌, length, take, get_or}
use Rattle.ras_cells.specs.declared.atom.Atom.TheVariants.{Wide}
use Rattle.ras_tile.specs.Planes.{cell_of_planes, IsPackedPlane, ArePlanes}
use Rattle.ras_tile.proofs.planes.narrowed.Given as goal

abbrev pub invariant-loop-i : goal.invariant-loop-i
invariant-loop-i l = record {
  made : ArePlanes l.cells (λ i plane. IsPackedPlane (get_or l.atoms i Wide) plane) (λ k. take l.i (cell_of_planes l.planes k)) l.copies.items;
  long : length l.copies.items ≡ l.i;
}
