use Rattle.std.proofs.Common.{take}
use Rattle.ras_cells.specs.Atoms.{AreInRange}
use Rattle.ras_tile.proofs.tests.fit.Given as goal

abbrev pub invariant-loop-i : goal.invariant-loop-i
invariant-loop-i l = AreInRange (take l.i l.atoms) (take l.i l.numbers)
