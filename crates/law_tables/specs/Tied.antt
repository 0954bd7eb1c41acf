-- A table of locks against a history: it has what live transactions hold, and nothing else.
use Rattle.std.specs.Prelude.{◌≡◌, ℕ, Contains}
use Rattle.ras_domain.specs.declared.lock.LockName.{LockName}
use Rattle.ras_domain.specs.declared.lock.Mode.{Mode}
use Rattle.ras_domain.specs.declared.lock.Mode.TheVariants.{Exclusive}
use Rattle.spec_statements.specs.Locks.{Lock}
use Rattle.spec_histories.specs.History.{History, Holds}
use Rattle.ras_locks.specs.declared.holders.Holder.{Holder}
use Rattle.ras_locks.specs.Tables.{HeldLocks, holders_of}

-- the table has this owner among the holders of the lock's name, in a mode that is as strong at least
pub record HasEntry (table : HeldLocks) (t : ℕ) (lock : Lock) : Type 0 where
  pub mode : Mode
  pub entry : Contains (holders_of table lock.0) (record { owner = t; mode = mode })
  pub strong : lock.1 ≡ Exclusive → mode ≡ Exclusive

-- each entry is a lock that a live transaction was granted, and each lock that one holds has an entry
pub record IsTableOf (past : History) (table : HeldLocks) : Type 0 where
  pub sound : (name : LockName) (holder : Holder) → Contains (holders_of table name) holder → Holds past holder.owner (name, holder.mode)
  pub complete : (t : ℕ) (lock : Lock) → Holds past t lock → HasEntry table t lock
