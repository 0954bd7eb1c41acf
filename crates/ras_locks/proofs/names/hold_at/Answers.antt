use Rattle.std.proofs.Common.{◌≡◌, ◌∙◌, ap, sym, subst, inl, true, is_some}
use Rattle.std.specs.Prelude.{Some}
use Rattle.ras_locks.specs.Holders.{has_place, with_holder}
use Rattle.ras_locks.specs.Tables.{items_or_none}
use Rattle.ras_locks.proofs.Entries.{updated-holders, updated-kept}
use Rattle.ras_locks.proofs.Places.{has_place-with_holder}
use Rattle.ras_locks.proofs.names.hold_at.Goals as goal

pub returns-in-Some-clause-holders : goal.returns-in-Some-clause-holders
returns-in-Some-clause-holders c =
    let there = c.in-Some.ensures.value in
    let updates = (c.get_mut.follows.holds c.hold.new.holders).3 (sym (ap is_some there)) in
    updated-holders _ _ c.args.name.now (Some c.hold.new.holders) updates.0 (with_holder c.args.owner c.args.mode)
    (c.hold.ensures ∙ ap (λ o. with_holder c.args.owner c.args.mode (items_or_none o)) there)

pub returns-in-Some-clause-kept : goal.returns-in-Some-clause-kept
returns-in-Some-clause-kept c =
    let there = c.in-Some.ensures.value in
    let updates = (c.get_mut.follows.holds c.hold.new.holders).3 (sym (ap is_some there)) in
    updated-kept _ _ c.args.name.now (Some c.hold.new.holders) updates.0 c.args.owner
    (λ ready. inl (ap (has_place c.args.owner) c.hold.ensures ∙ has_place-with_holder c.args.owner c.args.mode c.in-Some.holders.now.items))
