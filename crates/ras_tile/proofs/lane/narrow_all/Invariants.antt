use Rattle.std.proofs.Common.{◌≡◌, ◌<◌, ℕ, map}
use Rattle.ras_tile.specs.Planes.{listed_number}
use Rattle.ras_tile.proofs.lane.narrow_all.Given as goal

abbrev pub invariant-loop-i : goal.invariant-loop-i
invariant-loop-i g l =
    (k : ℕ) → k < l.i → listed_number (map g.T.Lane.number l.kept) k ≡ listed_number l.numbers k
