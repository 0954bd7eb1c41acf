use Rattle.std.proofs.Common.{◌≡◌, ◌<◌, Some, false, sym, ap, subst, ◌∙◌}
use Rattle.std.specs.List.{AllByRecursion, slice_get}
use Rattle.std.specs.List.Sorted.{IsStrictlySortedBy}
use Rattle.std.specs.Map.{keys_of}
use Rattle.std.specs.BTreeMap.{is_at}
use Rattle.ras_index.specs.Index.{row_major, value_at}
use Rattle.ras_index.specs.Slots.{places_of}
use Rattle.ras_index.proofs.Search.{absent-between}
use Rattle.ras_index.proofs.Slots.{row_major_total, value-read, lookup-absent, sorted-entries, within-slots}
use Rattle.ras_index.proofs.index.TileIndex.get.Goals as goal

pub index-requires : goal.index-requires
index-requires g c =
    subst (λ n. c.in-Ok.i < n) c.as_slice.ensures.len (within-slots c.as_slice.result.now c.in-Ok.i c.args.place.now.items c.in-Ok.ensures.found)

pub returns-in-Ok-clause-value : goal.returns-in-Ok-clause-value
returns-in-Ok-clause-value g c =
    let found = subst (λ slots. slice_get (places_of slots) c.in-Ok.i ≡ Some c.args.place.now.items) c.as_slice.ensures.value c.in-Ok.ensures.found in
    c.as_ref.ensures.value
    ∙ sym (value-read c.self.inside.slots.items c.in-Ok.i c.args.place.now.items c.index.result.now c.self.invariant found c.index.ensures)
    ∙ ap (λ index. value_at index.entries c.args.place.now.items) c.self.view_is

pub returns-in-Ok-clause-ordered : goal.returns-in-Ok-clause-ordered
returns-in-Ok-clause-ordered g c =
    subst (λ index. IsStrictlySortedBy row_major (keys_of index.entries)) c.self.view_is (sorted-entries row_major c.self.inside.slots.items c.self.invariant)

pub returns-in-Err-clause-value : goal.returns-in-Err-clause-value
returns-in-Err-clause-value g c =
    let absent = absent-between row_major_total (places_of c.as_slice.result.now) c.in-Err.field-0 c.args.place.now.items c.in-Err.ensures.below c.in-Err.ensures.above in
    let none = lookup-absent row_major c.self.inside.slots.items c.args.place.now.items
    (subst (λ slots. AllByRecursion (λ q. is_at (row_major c.args.place.now.items) q ≡ false) (places_of slots)) c.as_slice.ensures.value absent) in
    sym none ∙ ap (λ index. value_at index.entries c.args.place.now.items) c.self.view_is

pub returns-in-Err-clause-ordered : goal.returns-in-Err-clause-ordered
returns-in-Err-clause-ordered g c =
    subst (λ index. IsStrictlySortedBy row_major (keys_of index.entries)) c.self.view_is (sorted-entries row_major c.self.inside.slots.items c.self.invariant)
