use Rattle.std.proofs.Common.{◌≡◌, length, take}
use Rattle.ras_tile.specs.Planes.{cell_of_planes, IsPlainPlane, ArePlanes}
use Rattle.ras_tile.proofs.planes.widened.Given as goal

abbrev pub invariant-loop-plane : goal.invariant-loop-plane
invariant-loop-plane l = record {
  made : ArePlanes l.cells (λ _ plane. IsPlainPlane plane) (λ k. take l.plane-index (cell_of_planes l.planes k)) l.copies.items;
  long : length l.copies.items ≡ l.plane-index;
}
