use Rattle.std.proofs.Common.{◌≡◌, take}
use Rattle.std.specs.Prelude.{if◌then◌else◌}
use Rattle.ras_domain.specs.declared.lock.LockName.{LockName}
use Rattle.ras_locks.specs.Holders.{without_owner}
use Rattle.ras_locks.specs.Tables.{holders_in, lists_name}
use Rattle.ras_locks.proofs.names.let_go_all.Given as goal

abbrev pub invariant-loop-name : goal.invariant-loop-name
invariant-loop-name l = (other : LockName) → holders_in l.names.entries other
    ≡ (if lists_name other (take l.name-index l.listed) then without_owner l.owner (holders_in l.fn.names.entries other) else holders_in l.fn.names.entries other)
