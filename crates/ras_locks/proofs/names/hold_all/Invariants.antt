use Rattle.std.proofs.Common.{◌≡◌, ℕ, take}
use Rattle.std.specs.Prelude.{slice_get, Some}
use Rattle.ras_domain.specs.declared.lock.LockName.{LockName}
use Rattle.ras_domain.specs.declared.lock.Mode.{Mode}
use Rattle.ras_locks.specs.Tables.{holders_in, with_locks, IsReadyAt}
use Rattle.ras_locks.proofs.names.hold_all.Given as goal

abbrev pub invariant-loop-place : goal.invariant-loop-place
invariant-loop-place l = record {
  holders : (other : LockName) → holders_in l.names.entries other ≡ with_locks (take l.place l.list) l.owner other (holders_in l.fn.names.entries other);
  ready : (place : ℕ) (lock : LockName × Mode) → slice_get l.list place ≡ Some lock → IsReadyAt l.names.entries lock.0 l.owner;
}
