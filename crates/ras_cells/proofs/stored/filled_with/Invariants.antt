use Rattle.std.proofs.Common.{◌≡◌, replicate}
use Rattle.ras_cells.proofs.stored.filled_with.Given as goal

abbrev pub invariant-loop : goal.invariant-loop
invariant-loop l = l.numbers.items ≡ replicate l.index l.number
