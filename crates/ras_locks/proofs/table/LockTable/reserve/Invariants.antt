use Rattle.std.proofs.Common.{◌≡◌, ◌<◌, ℕ}
use Rattle.std.specs.Prelude.{slice_get, Some}
use Rattle.ras_domain.specs.declared.lock.LockName.{LockName}
use Rattle.ras_domain.specs.declared.lock.Mode.{Mode}
use Rattle.ras_locks.specs.Tables.{holders_of, IsReserved}
use Rattle.ras_locks.proofs.table.LockTable.reserve.Given as goal

abbrev pub invariant-loop-place : goal.invariant-loop-place
invariant-loop-place l = record {
  holders : (name : LockName) → holders_of l.self name ≡ holders_of l.fn.self name;
  kept : (name : LockName) (asker : ℕ) → IsReserved l.fn.self name asker → IsReserved l.self name asker;
  reserved : (before : ℕ) (lock : LockName × Mode) → before < l.place → slice_get l.list before ≡ Some lock → IsReserved l.self lock.0 l.owner;
}
