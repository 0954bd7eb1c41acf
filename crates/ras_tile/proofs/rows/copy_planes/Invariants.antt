use Rattle.std.proofs.Common.{◌≡◌, ℤ, List, length, take, All}
use Rattle.ras_domain.specs.Region.{IsIn, points_of, place_in_rows}
use Rattle.ras_tile.specs.Planes.{cell_of_planes, HasNumbers, IsPlainPlane}
use Rattle.ras_tile.proofs.rows.copy_planes.Given as goal

abbrev pub invariant-loop-i : goal.invariant-loop-i
invariant-loop-i l = record {
  plain : All IsPlainPlane l.to;
  whole : All (HasNumbers (length (points_of l.to_box))) l.to;
  copied : (p : List ℤ) → IsIn p l.region
      → take l.i (cell_of_planes l.to (place_in_rows l.to_box p)) ≡ take l.i (cell_of_planes l.from (place_in_rows l.from_box p));
  others : (p : List ℤ) → IsIn p l.to_box → (IsIn p l.region → ⊥)
      → cell_of_planes l.to (place_in_rows l.to_box p) ≡ cell_of_planes l.fn.to (place_in_rows l.to_box p);
}
