use Rattle.std.proofs.Common.{◌<◌, Contains, refl, sym, ap, subst, ◌∙◌}
use Rattle.std.specs.BTreeMap.{insert_entry}
use Rattle.ras_index.specs.Index.{row_major, value_at, IsReady}
use Rattle.ras_index.specs.Slots.{places_of}
use Rattle.ras_index.proofs.Search.{found-where-present}
use Rattle.ras_index.proofs.Slots.{row_major_total, found-index, place-read, value-read, sorted-entries, within-slots, ready-place, entries-put, sorted-written, ready-written}
use Rattle.ras_index.proofs.index.TileIndex.put.Goals as goal

pub unwrap-i-requires : goal.unwrap-i-requires
unwrap-i-requires g c =
    let ready = subst (λ index. IsReady index c.args.place.items) (sym c.self.view_is) c.requires in
    let has = subst (λ slots. Contains (places_of slots) c.args.place.items) (sym c.as_slice.ensures.value) (ready-place c.self.inside.slots.items c.args.place.items ready) in
    found-where-present row_major_total (places_of c.as_slice.result.now) c.args.place.items c.find.result c.find.ensures.below c.find.ensures.above has

pub index_mut-requires : goal.index_mut-requires
index_mut-requires g c =
    let found = found-index c.as_slice.result.now c.as_slice.result.now c.args.place.items c.find.result c.unwrap-i.result refl c.unwrap-i.ensures c.find.ensures.found in
    subst (λ n. c.unwrap-i.result < n) c.as_slice.ensures.len (within-slots c.as_slice.result.now c.unwrap-i.result c.args.place.items found)

pub invariant_of-self : goal.invariant_of-self
invariant_of-self g c =
    let found = found-index c.as_slice.result.now c.self.inside.slots.items c.args.place.items c.find.result c.unwrap-i.result c.as_slice.ensures.value
    c.unwrap-i.ensures c.find.ensures.found in
    let place = place-read c.self.inside.slots.items c.unwrap-i.result c.args.place.items c.index_mut.result.now found c.index_mut.ensures.value in
    sorted-written c.self.inside.slots.items c.unwrap-i.result c.args.place.items (record { place = c.index_mut.result.now.place; value = c.replace.new.self }) c.self.invariant found place

pub returns-clause-value : goal.returns-clause-value
returns-clause-value g c =
    let found = found-index c.as_slice.result.now c.self.inside.slots.items c.args.place.items c.find.result c.unwrap-i.result c.as_slice.ensures.value
    c.unwrap-i.ensures c.find.ensures.found in
    c.replace.ensures.value
    ∙ sym (value-read c.self.inside.slots.items c.unwrap-i.result c.args.place.items c.index_mut.result.now c.self.invariant found c.index_mut.ensures.value)
    ∙ ap (λ index. value_at index.entries c.args.place.items) c.self.view_is

pub returns-clause-entries : goal.returns-clause-entries
returns-clause-entries g c =
    let found = found-index c.as_slice.result.now c.self.inside.slots.items c.args.place.items c.find.result c.unwrap-i.result c.as_slice.ensures.value
    c.unwrap-i.ensures c.find.ensures.found in
    let place = place-read c.self.inside.slots.items c.unwrap-i.result c.args.place.items c.index_mut.result.now found c.index_mut.ensures.value in
    entries-put c.self.inside.slots.items c.unwrap-i.result c.args.place.items (record { place = c.index_mut.result.now.place; value = c.replace.new.self })
    c.self.invariant found place c.args.value c.replace.ensures.after
    ∙ ap (λ index. insert_entry row_major index.entries c.args.place.items c.args.value) c.self.view_is

pub returns-clause-ready : goal.returns-clause-ready
returns-clause-ready g c = λ q ready.
    let found = found-index c.as_slice.result.now c.self.inside.slots.items c.args.place.items c.find.result c.unwrap-i.result c.as_slice.ensures.value
    c.unwrap-i.ensures c.find.ensures.found in
    let place = place-read c.self.inside.slots.items c.unwrap-i.result c.args.place.items c.index_mut.result.now found c.index_mut.ensures.value in
    ready-written c.self.inside.slots.items c.unwrap-i.result c.args.place.items (record { place = c.index_mut.result.now.place; value = c.replace.new.self }) c.self.invariant found place
    q (subst (λ index. IsReady index q) (sym c.self.view_is) ready)

pub returns-clause-ordered : goal.returns-clause-ordered
returns-clause-ordered g c =
    let found = found-index c.as_slice.result.now c.self.inside.slots.items c.args.place.items c.find.result c.unwrap-i.result c.as_slice.ensures.value
    c.unwrap-i.ensures c.find.ensures.found in
    let place = place-read c.self.inside.slots.items c.unwrap-i.result c.args.place.items c.index_mut.result.now found c.index_mut.ensures.value in
    sorted-entries row_major _ (sorted-written c.self.inside.slots.items c.unwrap-i.result c.args.place.items
    (record { place = c.index_mut.result.now.place; value = c.replace.new.self }) c.self.invariant found place)
