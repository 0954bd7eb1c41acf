use Rattle.std.proofs.Common.{◌≡◌, ◌-◌, take, drop, false, arith}
use Rattle.std.specs.declared.cmp.Ordering.TheVariants.{Less}
use Rattle.std.proofs.lemmas.Option.{slice_get_within}
use Rattle.ras_domain.specs.Region.{points_of, is_in}
use Rattle.ras_index.specs.Index.{row_major}
use Rattle.ras_index.specs.Slots.{places_of}
use Rattle.ras_index.proofs.Boxes.{below_first, above_last, places_in-span}
use Rattle.law_lists.proofs.Each.{each_weaker}
use Rattle.ras_index.proofs.slot.span.Goals as goal

pub returns : goal.returns
returns g c =
    let from = c.from_place.ensures.others in
    let upto = c.upto_place.ensures.others in
    let front = each_weaker (λ q. row_major q c.first_point-first.result.items ≡ Less) (λ q. is_in q c.args.places.now ≡ false)
    (λ q less. below_first c.args.places.now c.first_point-first.result.items q c.first_point-first.ensures less) (places_of (take from.0 c.args.slots.now)) from.2 in
    let back = each_weaker (λ q. row_major c.point_at-last.result.items q ≡ Less) (λ q. is_in q c.args.places.now ≡ false)
    (λ q less. above_last c.args.places.now c.point_at-last.result.items q (c.volume.result - 1)
    (omega (arith, c.volume.ensures, slice_get_within (points_of c.args.places.now) 0 c.first_point-first.result.items c.first_point-first.ensures))
    c.point_at-last.ensures less) (places_of (drop upto.0 c.from_place.result.now)) upto.2 in
    places_in-span c.args.places.now c.args.slots.now c.from_place.result.now c.upto_place.result.now from.0 upto.0 from.1 upto.1 front back
