use Rattle.ras_tile.proofs.Covers.{IsWider}
use Rattle.ras_tile.proofs.tests.covers.Given as goal

abbrev pub invariant-loop-i : goal.invariant-loop-i
invariant-loop-i l = IsWider l.wide l.narrow l.i
