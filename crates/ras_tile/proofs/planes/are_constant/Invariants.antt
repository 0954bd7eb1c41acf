use Rattle.std.proofs.Common.{◌≡◌, ◌<◌, ℕ, take, All}
use Rattle.ras_tile.specs.Planes.{cell_of_planes, HasNumbers}
use Rattle.ras_tile.proofs.planes.are_constant.Given as goal

abbrev pub invariant-loop-plane : goal.invariant-loop-plane
invariant-loop-plane l =
    (n : ℕ) → All (HasNumbers n) l.planes → (k : ℕ) → k < n
    → cell_of_planes (take l.plane-index l.planes) k ≡ cell_of_planes (take l.plane-index l.planes) 0
