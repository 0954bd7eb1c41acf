use Rattle.std.proofs.Common.{◌≡◌, ◌<◌, ℕ}
use Rattle.std.specs.Prelude.{slice_get, Some, None}
use Rattle.ras_domain.specs.declared.lock.LockName.{LockName}
use Rattle.ras_domain.specs.declared.lock.Mode.{Mode}
use Rattle.ras_locks.specs.Holders.{blocker}
use Rattle.ras_locks.specs.Tables.{holders_of}
use Rattle.ras_locks.proofs.table.LockTable.first_conflict.Given as goal

abbrev pub invariant-loop-place : goal.invariant-loop-place
invariant-loop-place l = (before : ℕ) (one : LockName × Mode) → before < l.place → slice_get l.list before ≡ Some one → blocker l.owner one.1 (holders_of l.self one.0) ≡ None
