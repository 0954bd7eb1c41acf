use Rattle.std.proofs.Common.{◌≡◌, length, take}
use Rattle.ras_tile.specs.Planes.{IsPlainPlane, ArePlanes}
use Rattle.ras_tile.proofs.planes.filled.Given as goal

abbrev pub invariant-loop-number : goal.invariant-loop-number
invariant-loop-number l = record {
  made : ArePlanes l.cells (λ _ plane. IsPlainPlane plane) (λ k. take l.number-index l.numbers) l.planes.items;
  long : length l.planes.items ≡ l.number-index;
}
