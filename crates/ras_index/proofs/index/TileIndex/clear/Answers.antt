use Rattle.std.proofs.Common.{◌≡◌, Contains, arith, inr, sym, subst, ap, ◌∙◌}
use Rattle.std.proofs.lemmas.List.{with_items_is}
use Rattle.std.specs.Vec.{with_items}
use Rattle.ras_index.specs.Index.{IsReady}
use Rattle.ras_index.specs.Slots.{places_of}
use Rattle.ras_index.proofs.Slots.{ready-place}
use Rattle.ras_index.proofs.index.TileIndex.clear.Goals as goal

pub returns-clause-ready : goal.returns-clause-ready
returns-clause-ready g c = λ q ready.
    let slots : (with_items c.self.inside.slots c.empty.new.slots).items ≡ c.empty.new.slots =
    with_items_is c.self.inside.slots c.empty.new.slots (omega (arith, c.as_mut_slice.ensures.len, c.empty.auto.slots)) in
    let places = c.empty.ensures.places ∙ ap places_of c.as_mut_slice.ensures.value in
    inr (subst (λ ps. Contains ps q) (sym (ap places_of slots ∙ places))
    (ready-place c.self.inside.slots.items q (subst (λ index. IsReady index q) (sym c.self.view_is) ready)))
