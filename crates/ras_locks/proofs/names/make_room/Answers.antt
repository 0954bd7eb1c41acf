use Rattle.std.proofs.Common.{◌≡◌, ◌∙◌, ap, sym, subst, is_some}
use Rattle.std.specs.Prelude.{Some}
use Rattle.ras_locks.specs.Tables.{IsReadyIn, holders_in, items_or_none}
use Rattle.ras_locks.proofs.Entries.{updated-kept, updated-same}
use Rattle.ras_locks.proofs.Places.{wider-ready}
use Rattle.ras_locks.proofs.names.make_room.Goals as goal

pub returns-in-Some-clause-holders : goal.returns-in-Some-clause-holders
returns-in-Some-clause-holders c =
    let there = c.in-Some.ensures.value in
    let updates = (c.get_mut.follows.holds c.reserve.new.self).3 (sym (ap is_some there)) in
    updated-same _ _ c.args.name.now (Some c.reserve.new.self) updates.0 (c.reserve.ensures.items ∙ ap items_or_none there)

pub returns-in-Some-clause-kept : goal.returns-in-Some-clause-kept
returns-in-Some-clause-kept c = λ other asker.
    let there = c.in-Some.ensures.value in
    let updates = (c.get_mut.follows.holds c.reserve.new.self).3 (sym (ap is_some there)) in
    updated-kept _ _ c.args.name.now (Some c.reserve.new.self) updates.0 asker
    (λ ready. wider-ready asker c.in-Some.holders.now c.reserve.new.self c.reserve.ensures.items c.reserve.ensures.capacity (subst (λ o. IsReadyIn o asker) (sym there) ready)) other

pub returns-clause-holders : goal.returns-clause-holders
returns-clause-holders c = λ other.
    updated-same c.get_mut.follows.lender-at-none.entries c.insert.new.self.entries c.in_ok-name.name (Some c.new.result) c.in_ok-insert.ensures.updates.0
    (c.new.ensures.items ∙ ap items_or_none c.in-None.ensures.value ∙ ap (holders_in c.args.names.now.entries) (sym c.in_ok-name.ensures)
    ∙ ap (λ m. holders_in m.entries c.in_ok-name.name) (sym c.get_mut.follows.holds-at-none)) other
    ∙ ap (λ m. holders_in m.entries other) c.get_mut.follows.holds-at-none
