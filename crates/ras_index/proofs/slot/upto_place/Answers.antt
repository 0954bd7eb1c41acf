use Rattle.std.proofs.Common.{◌≡◌, ◌+◌, drop, sym, refl, subst, add-one}
use Rattle.std.specs.List.{AllByRecursion}
use Rattle.std.specs.declared.cmp.Ordering.TheVariants.{Less}
use Rattle.std.proofs.lemmas.List.{drop-map}
use Rattle.ras_index.specs.Index.{row_major}
use Rattle.ras_index.specs.Slots.{places_of}
use Rattle.ras_index.proofs.Search.{above-at}
use Rattle.ras_index.proofs.Slots.{row_major_total}
use Rattle.ras_index.proofs.slot.upto_place.Goals as goal

pub returns-in-Ok : goal.returns-in-Ok
returns-in-Ok g c =
    record {
      others = (
        c.in-Ok.last + 1,
        refl,
        subst (AllByRecursion (λ q. row_major c.args.place.now.items q ≡ Less)) (drop-map (λ slot. slot.place.items) (c.in-Ok.last + 1) c.args.slots.now)
            (subst (λ n. AllByRecursion (λ q. row_major c.args.place.now.items q ≡ Less) (drop n (places_of c.args.slots.now))) (sym (add-one c.in-Ok.last))
            (above-at row_major_total (places_of c.args.slots.now) c.in-Ok.last c.args.place.now.items c.requires c.in-Ok.ensures.found)),
      );
    }

pub returns-in-Err : goal.returns-in-Err
returns-in-Err g c =
    record {
      others = (
        c.in-Err.end,
        refl,
        subst (AllByRecursion (λ q. row_major c.args.place.now.items q ≡ Less)) (drop-map (λ slot. slot.place.items) c.in-Err.end c.args.slots.now) c.in-Err.ensures.above,
      );
    }
