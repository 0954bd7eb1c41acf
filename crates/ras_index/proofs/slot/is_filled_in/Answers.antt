use Rattle.std.proofs.Common.{◌&&◌, cond, [], ◌∷◌, sym, ap, ◌∙◌}
use Rattle.ras_index.proofs.Boxes.{place_of_one}
use Rattle.ras_index.proofs.slot.is_filled_in.Goals as goal

pub returns-then-is_some : goal.returns-then-is_some
returns-then-is_some g c =
    place_of_one c.args.places.now c.args.slot.now.place.items c.args.slot.now.value c.contains.result c.contains.ensures
    ∙ ap (λ b. cond (b && c.contains.result) (c.args.slot.now.place.items ∷ []) []) (sym c.is_some.ensures ∙ c.if-is_some.true)
