use Rattle.std.proofs.Common.{Contains, ◌⊎◌, All, inr, sym, subst}
use Rattle.std.proofs.lemmas.Result.{on_ok_weaker}
use Rattle.ras_index.specs.Index.{IsReady}
use Rattle.ras_index.specs.Slots.{places_of}
use Rattle.ras_index.proofs.Ready.{all_ready}
use Rattle.ras_index.proofs.Slots.{ready-place}
use Rattle.ras_index.proofs.index.TileIndex.reserve_for.Goals as goal

pub returns-clause-made_ready : goal.returns-clause-made_ready
returns-clause-made_ready g c =
    let known = subst (λ slots. All (λ p. Contains (places_of slots) p.items ⊎ Contains c.in_ok-missing.missing.items p) c.args.places.now) c.as_slice.ensures.value
    c.in_ok-missing.ensures in
    on_ok_weaker c.make_ready.result (all_ready c.self.inside.slots.items c.make_ready.new.slots.items c.args.places.now c.in_ok-missing.missing.items
    c.make_ready.ensures.kept known) c.make_ready.ensures.made

pub returns-clause-ready : goal.returns-clause-ready
returns-clause-ready g c = λ q ready.
    inr (c.make_ready.ensures.kept q (ready-place c.self.inside.slots.items q (subst (λ index. IsReady index q) (sym c.self.view_is) ready)))
