use Rattle.std.proofs.Common.{◌≡◌, ◌∙◌, ap, sym, false}
use Rattle.std.specs.Prelude.{None}
use Rattle.ras_locks.specs.Holders.{without_owner}
use Rattle.ras_locks.specs.Tables.{holders_of, lists_name, names_or_none, names_in, HeldLocks}
use Rattle.ras_locks.proofs.Keeping.{kept-released, released-all, released-unlisted}
use Rattle.ras_locks.proofs.table.LockTable.release_all.Goals as goal

pub invariant_of-self : goal.invariant_of-self
invariant_of-self c =
    let before : HeldLocks = record { names = c.self.inside.names.entries; owners = c.self.inside.owners.entries } in
    let listed : c.as_slice.result.now ≡ names_in before.owners c.args.owner = c.as_slice.ensures ∙ ap names_or_none c.in-Some.ensures.value in
    kept-released before _ c.args.owner c.self.invariant (λ other apart. c.swap_remove.ensures.updates.2 other apart)
    (λ name. released-all before c.args.owner name c.as_slice.result.now _ c.self.invariant listed (c.let_go_all.ensures name))

pub returns-in-Some : goal.returns-in-Some
returns-in-Some c = λ name.
    let before : HeldLocks = record { names = c.self.inside.names.entries; owners = c.self.inside.owners.entries } in
    let listed : c.as_slice.result.now ≡ names_in before.owners c.args.owner = c.as_slice.ensures ∙ ap names_or_none c.in-Some.ensures.value in
    released-all before c.args.owner name c.as_slice.result.now _ c.self.invariant listed (c.let_go_all.ensures name)
    ∙ ap (λ (t : HeldLocks). without_owner c.args.owner (holders_of t name)) c.self.view_is

pub returns-in_default : goal.returns-in_default
returns-in_default c = λ name.
    let before : HeldLocks = record { names = c.self.inside.names.entries; owners = c.self.inside.owners.entries } in
    let absent : lists_name name (names_in before.owners c.args.owner) ≡ false = ap (λ o. lists_name name (names_or_none o)) (sym c.swap_remove.ensures.value ∙ c.in_default.is) in
    sym (released-unlisted before c.args.owner name c.self.invariant absent) ∙ ap (λ (t : HeldLocks). without_owner c.args.owner (holders_of t name)) c.self.view_is
