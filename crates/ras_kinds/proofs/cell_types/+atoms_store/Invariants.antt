use Rattle.std.proofs.Common.{length}
use Rattle.ras_kinds.proofs.cell_types.+atoms_store.Given as goal

abbrev pub decreases-atoms_store : goal.decreases-atoms_store
decreases-atoms_store l = length l.from.now
