use Rattle.std.proofs.Common.{◌≡◌, ◌<◌, ℕ, map}
use Rattle.ras_tile.specs.Planes.{listed_number}
use Rattle.ras_tile.proofs.lane.are_equal.Given as goal

abbrev pub invariant-loop-number : goal.invariant-loop-number
invariant-loop-number g l =
    (k : ℕ) → k < l.number-index → listed_number (map g.T.Lane.number l.numbers) k ≡ listed_number (map g.T.Lane.number l.numbers) 0
