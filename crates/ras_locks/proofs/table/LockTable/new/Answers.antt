use Rattle.ras_locks.proofs.Keeping.{kept-empty}
use Rattle.ras_locks.proofs.table.LockTable.new.Goals as goal

pub invariant_of-result : goal.invariant_of-result
invariant_of-result c = kept-empty _ c.new.ensures.empty
