use Rattle.std.proofs.Common.{◌∙◌, ap, sym, subst, arith}
use Rattle.std.specs.List.Sorted.{IsStrictlySortedBy}
use Rattle.std.proofs.lemmas.Option.{slice_get_within}
use Rattle.ras_locks.specs.Holders.{blocker, by_owner}
use Rattle.ras_locks.proofs.Conflicts.{first_conflict-is, uncontested}
use Rattle.ras_locks.proofs.table.LockTable.first_conflict.Goals as goal

pub returns-in-Some : goal.returns-in-Some
returns-in-Some c =
    first_conflict-is c.args.self.now c.args.list.now c.args.owner c.loop-place.place (c.get-mode.result.0.now, c.get-mode.result.1) c.in-Some.other
    (subst (IsStrictlySortedBy by_owner) c.holders.ensures.holders c.holders.ensures.ordered) c.get-mode.ensures
    (ap (blocker c.args.owner c.get-mode.result.1) (sym c.holders.ensures.holders) ∙ sym c.conflicting.ensures ∙ c.in-Some.is) c.loop-place.invariant

pub returns : goal.returns
returns c = λ place lock at other contested.
    uncontested c.args.self.now c.args.owner lock
    (c.loop-place.invariant place lock (omega (arith, slice_get_within c.args.list.now place lock at, c.loop-place-test.false, c.len-place-end.ensures)) at) other contested
