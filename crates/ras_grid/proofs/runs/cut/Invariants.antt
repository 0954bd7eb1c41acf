use Rattle.ras_grid.proofs.Shares.{IsShared}
use Rattle.ras_grid.proofs.runs.cut.Given as goal

abbrev pub invariant-loop-run : goal.invariant-loop-run
invariant-loop-run l = IsShared l.len l.count l.run l.from l.runs.items
