use Rattle.ras_store.specs.Store.{store_kept}
use Rattle.ras_setup.specs.OnTheWay.{IsOnTheWay}
use Rattle.ras_setup.proofs.changes.changes_of.Given as goal

abbrev pub invariant-loop : goal.invariant-loop
invariant-loop g l = IsOnTheWay l.types l.statement (store_kept l.store) l.course l.work
