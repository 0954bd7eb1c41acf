use Rattle.std.proofs.Common.{◌≡◌, ◌<◌, false, sym, ap, subst, ◌∙◌}
use Rattle.std.specs.List.{AllByRecursion}
use Rattle.std.specs.List.Sorted.{IsStrictlySortedBy}
use Rattle.std.specs.Map.{keys_of, remove_entry}
use Rattle.std.specs.BTreeMap.{is_at}
use Rattle.ras_index.specs.Index.{row_major, value_at, IsReady}
use Rattle.ras_index.specs.Slots.{places_of}
use Rattle.ras_index.proofs.Search.{absent-between}
use Rattle.ras_index.proofs.Slots.{row_major_total, lookup-absent, remove-absent, found-index, place-read, value-read, sorted-entries, within-slots, entries-removed, sorted-written, ready-written}
use Rattle.ras_index.proofs.index.TileIndex.remove.Goals as goal

pub index_mut-requires : goal.index_mut-requires
index_mut-requires g c =
    subst (λ n. c.in-Ok.i < n) c.as_slice.ensures.len (within-slots c.as_slice.result.now c.in-Ok.i c.args.place.now.items c.in-Ok.ensures.found)

pub invariant_of-self : goal.invariant_of-self
invariant_of-self g c =
    let found = found-index c.as_slice.result.now c.self.inside.slots.items c.args.place.now.items c.find.result c.in-Ok.i c.as_slice.ensures.value c.in-Ok.is c.find.ensures.found in
    let place = place-read c.self.inside.slots.items c.in-Ok.i c.args.place.now.items c.index_mut.result.now found c.index_mut.ensures.value in
    sorted-written c.self.inside.slots.items c.in-Ok.i c.args.place.now.items (record { place = c.index_mut.result.now.place; value = c.take.new.self }) c.self.invariant found place

pub returns-in-Ok-clause-value : goal.returns-in-Ok-clause-value
returns-in-Ok-clause-value g c =
    let found = found-index c.as_slice.result.now c.self.inside.slots.items c.args.place.now.items c.find.result c.in-Ok.i c.as_slice.ensures.value c.in-Ok.is c.find.ensures.found in
    c.take.ensures.value
    ∙ sym (value-read c.self.inside.slots.items c.in-Ok.i c.args.place.now.items c.index_mut.result.now c.self.invariant found c.index_mut.ensures.value)
    ∙ ap (λ index. value_at index.entries c.args.place.now.items) c.self.view_is

pub returns-in-Ok-clause-entries : goal.returns-in-Ok-clause-entries
returns-in-Ok-clause-entries g c =
    let found = found-index c.as_slice.result.now c.self.inside.slots.items c.args.place.now.items c.find.result c.in-Ok.i c.as_slice.ensures.value c.in-Ok.is c.find.ensures.found in
    let place = place-read c.self.inside.slots.items c.in-Ok.i c.args.place.now.items c.index_mut.result.now found c.index_mut.ensures.value in
    entries-removed c.self.inside.slots.items c.in-Ok.i c.args.place.now.items (record { place = c.index_mut.result.now.place; value = c.take.new.self })
    c.self.invariant found place c.take.ensures.after
    ∙ ap (λ index. remove_entry (is_at (row_major c.args.place.now.items)) index.entries) c.self.view_is

pub returns-in-Ok-clause-ready : goal.returns-in-Ok-clause-ready
returns-in-Ok-clause-ready g c = λ q ready.
    let found = found-index c.as_slice.result.now c.self.inside.slots.items c.args.place.now.items c.find.result c.in-Ok.i c.as_slice.ensures.value c.in-Ok.is c.find.ensures.found in
    let place = place-read c.self.inside.slots.items c.in-Ok.i c.args.place.now.items c.index_mut.result.now found c.index_mut.ensures.value in
    ready-written c.self.inside.slots.items c.in-Ok.i c.args.place.now.items (record { place = c.index_mut.result.now.place; value = c.take.new.self }) c.self.invariant found place
    q (subst (λ index. IsReady index q) (sym c.self.view_is) ready)

pub returns-in-Ok-clause-ordered : goal.returns-in-Ok-clause-ordered
returns-in-Ok-clause-ordered g c =
    let found = found-index c.as_slice.result.now c.self.inside.slots.items c.args.place.now.items c.find.result c.in-Ok.i c.as_slice.ensures.value c.in-Ok.is c.find.ensures.found in
    let place = place-read c.self.inside.slots.items c.in-Ok.i c.args.place.now.items c.index_mut.result.now found c.index_mut.ensures.value in
    sorted-entries row_major _ (sorted-written c.self.inside.slots.items c.in-Ok.i c.args.place.now.items
    (record { place = c.index_mut.result.now.place; value = c.take.new.self }) c.self.invariant found place)

pub returns-in-Err-clause-value : goal.returns-in-Err-clause-value
returns-in-Err-clause-value g c =
    let absent = absent-between row_major_total (places_of c.as_slice.result.now) c.in-Err.field-0 c.args.place.now.items c.in-Err.ensures.below c.in-Err.ensures.above in
    let none = lookup-absent row_major c.self.inside.slots.items c.args.place.now.items
    (subst (λ slots. AllByRecursion (λ q. is_at (row_major c.args.place.now.items) q ≡ false) (places_of slots)) c.as_slice.ensures.value absent) in
    sym none ∙ ap (λ index. value_at index.entries c.args.place.now.items) c.self.view_is

pub returns-in-Err-clause-ordered : goal.returns-in-Err-clause-ordered
returns-in-Err-clause-ordered g c =
    subst (λ index. IsStrictlySortedBy row_major (keys_of index.entries)) c.self.view_is (sorted-entries row_major c.self.inside.slots.items c.self.invariant)

pub returns-in-Err-clause-entries : goal.returns-in-Err-clause-entries
returns-in-Err-clause-entries g c =
    let absent = absent-between row_major_total (places_of c.as_slice.result.now) c.in-Err.field-0 c.args.place.now.items c.in-Err.ensures.below c.in-Err.ensures.above in
    let same = remove-absent row_major c.self.inside.slots.items c.args.place.now.items
    (subst (λ slots. AllByRecursion (λ q. is_at (row_major c.args.place.now.items) q ≡ false) (places_of slots)) c.as_slice.ensures.value absent) in
    subst (λ index. index.entries ≡ remove_entry (is_at (row_major c.args.place.now.items)) index.entries) c.self.view_is (sym same)

pub returns-in-Ok-clause-was_ordered : goal.returns-in-Ok-clause-was_ordered
returns-in-Ok-clause-was_ordered g c =
    subst (λ index. IsStrictlySortedBy row_major (keys_of index.entries)) c.self.view_is (sorted-entries row_major c.self.inside.slots.items c.self.invariant)

pub returns-in-Err-clause-was_ordered : goal.returns-in-Err-clause-was_ordered
returns-in-Err-clause-was_ordered g c =
    subst (λ index. IsStrictlySortedBy row_major (keys_of index.entries)) c.self.view_is (sorted-entries row_major c.self.inside.slots.items c.self.invariant)
