use Rattle.std.proofs.Common.{◌≡◌, sym, subst, refl}
use Rattle.ras_locks.specs.Tables.{AreReserved, HeldLocks}
use Rattle.ras_locks.proofs.Keeping.{kept-granted}
use Rattle.ras_locks.proofs.table.LockTable.grant.Goals as goal

pub hold_all-requires : goal.hold_all-requires
hold_all-requires c = λ place lock at. ((subst (λ (t : HeldLocks). AreReserved t c.args.list c.args.owner) (sym c.self.view_is) c.requires.reserved) place lock at).ready

pub invariant_of-self : goal.invariant_of-self
invariant_of-self c =
    kept-granted (record { names = c.self.inside.names.entries; owners = c.self.inside.owners.entries }) _ c.args.list c.args.owner c.self.invariant
    (subst (λ (t : HeldLocks). AreReserved t c.args.list c.args.owner) (sym c.self.view_is) c.requires.reserved) refl c.hold_all.ensures
