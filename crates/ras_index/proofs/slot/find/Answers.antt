use Rattle.std.proofs.lemmas.Fn.{always_returns_same}
use Rattle.ras_index.specs.Index.{row_major}
use Rattle.ras_index.proofs.Search.{found-at, found-below, found-above}
use Rattle.ras_index.proofs.Slots.{row_major_total, row_major_exact}
use Rattle.ras_index.proofs.slot.find.Goals as goal

pub returns-clause-found : goal.returns-clause-found
returns-clause-found g c =
    let is = c.binary_search_by.ensures.position (λ slot. row_major slot.place.items c.args.place.now.items)
    (always_returns_same _ _ _ (λ a r f k. (k.met.1, λ j. record { 0 = k.met.0 j }))) in
    found-at row_major_total (λ slot. slot.place.items) row_major_exact c.args.slots.now c.args.place.now.items c.binary_search_by.result c.binary_search_by.ensures.bound is

pub returns-clause-below : goal.returns-clause-below
returns-clause-below g c =
    let is = c.binary_search_by.ensures.position (λ slot. row_major slot.place.items c.args.place.now.items)
    (always_returns_same _ _ _ (λ a r f k. (k.met.1, λ j. record { 0 = k.met.0 j }))) in
    found-below row_major_total (λ slot. slot.place.items) c.args.slots.now c.args.place.now.items c.binary_search_by.result c.requires.sorted c.binary_search_by.ensures.bound is

pub returns-clause-above : goal.returns-clause-above
returns-clause-above g c =
    let is = c.binary_search_by.ensures.position (λ slot. row_major slot.place.items c.args.place.now.items)
    (always_returns_same _ _ _ (λ a r f k. (k.met.1, λ j. record { 0 = k.met.0 j }))) in
    found-above row_major_total (λ slot. slot.place.items) c.args.slots.now c.args.place.now.items c.binary_search_by.result c.requires.sorted is
