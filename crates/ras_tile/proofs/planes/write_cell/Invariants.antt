use Rattle.std.proofs.Common.{◌≡◌, ◌≢◌, ◌+◌, ℕ, take, All}
use Rattle.ras_tile.specs.Planes.{cell_of_planes, HasNumbers, Reaches, IsPlainPlane}
use Rattle.ras_tile.proofs.planes.write_cell.Given as goal

abbrev pub invariant-loop-i : goal.invariant-loop-i
invariant-loop-i l = record {
  plain : All IsPlainPlane l.planes;
  within : All (Reaches (l.place + 1)) l.planes;
  written : take l.i (cell_of_planes l.planes l.place) ≡ take l.i l.numbers;
  others : (k : ℕ) → k ≢ l.place → cell_of_planes l.planes k ≡ cell_of_planes l.fn.planes k;
  whole : (n : ℕ) → All (HasNumbers n) l.fn.planes → All (HasNumbers n) l.planes;
}
