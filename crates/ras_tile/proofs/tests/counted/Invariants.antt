use Rattle.std.proofs.Common.{IsTrue}
use Rattle.ras_tile.proofs.tests.counted.Given as goal

abbrev pub invariant-loop-place : goal.invariant-loop-place
invariant-loop-place g l = IsTrue l.tile.writable
