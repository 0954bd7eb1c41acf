use Rattle.std.proofs.Common.{◌≡◌, ◌+◌, take, sym, subst, arith}
use Rattle.std.specs.List.{AllZip}
use Rattle.std.proofs.lemmas.List.{take_all}
use Rattle.std.proofs.lemmas.List.Elements.{all_zip_more}
use Rattle.std.proofs.lemmas.Map.Entries.{entries_from_clone}
use Rattle.ras_index.specs.Slots.{IsCopyOf, entries_of}
use Rattle.ras_index.proofs.Copies.{sorted-copies, clones-of}
use Rattle.ras_index.proofs.index.TileIndex.try_clone.Goals as goal

pub loop-slot-preserved : goal.loop-slot-preserved
loop-slot-preserved g c =
    subst (AllZip (IsCopyOf g.V.Clone.is_clone) (take (c.loop-slot.slot-index + 1) c.deref-slot-items.result.now)) (sym c.in_ok-push.ensures.items)
    (all_zip_more (IsCopyOf g.V.Clone.is_clone) c.deref-slot-items.result.now c.loop-slot.slots.items c.loop-slot.slot-index c.slot-item.result c.in_ok-copy_of.field-0
    c.loop-slot-test.true c.slot-item.is c.loop-slot.invariant c.in_ok-copy_of.ensures)

pub invariant_of-result : goal.invariant_of-result
invariant_of-result g c =
    let all = subst (λ slots. AllZip (IsCopyOf g.V.Clone.is_clone) slots c.loop-slot.slots.items)
    (take_all c.loop-slot.slot-index c.deref-slot-items.result.now (omega (arith, c.loop-slot-test.false))) c.loop-slot.invariant in
    let copies = subst (λ slots. AllZip (IsCopyOf g.V.Clone.is_clone) slots c.loop-slot.slots.items) c.deref-slot-items.ensures.value all in
    sorted-copies g.V.Clone.is_clone c.self.inside.slots.items c.loop-slot.slots.items copies c.self.invariant

pub returns-clause-clones : goal.returns-clause-clones
returns-clause-clones g c =
    let all = subst (λ slots. AllZip (IsCopyOf g.V.Clone.is_clone) slots c.loop-slot.slots.items)
    (take_all c.loop-slot.slot-index c.deref-slot-items.result.now (omega (arith, c.loop-slot-test.false))) c.loop-slot.invariant in
    let copies = subst (λ slots. AllZip (IsCopyOf g.V.Clone.is_clone) slots c.loop-slot.slots.items) c.deref-slot-items.ensures.value all in
    subst (λ index. AllZip (λ e d. (d.0 ≡ e.0) × g.V.Clone.is_clone e.1 d.1) index.entries (entries_of c.loop-slot.slots.items)) c.self.view_is
    (clones-of g.V.Clone.is_clone c.self.inside.slots.items c.loop-slot.slots.items copies)

pub returns-clause-entries : goal.returns-clause-entries
returns-clause-entries g c = λ exact.
    entries_from_clone (λ p q. q ≡ p) g.V.Clone.is_clone (λ p q same. same) exact c.args.self.now.entries (entries_of c.loop-slot.slots.items) (returns-clause-clones g c)
