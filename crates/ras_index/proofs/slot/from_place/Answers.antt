use Rattle.std.proofs.Common.{◌-◌, length, drop, sym, subst, arith}
use Rattle.std.specs.List.Sorted.{IsStrictlySortedBy}
use Rattle.std.proofs.lemmas.List.{take_all, length-drop}
use Rattle.ras_index.specs.Index.{row_major}
use Rattle.ras_index.specs.Slots.{places_of}
use Rattle.ras_index.proofs.Search.{below-start, sorted-drop}
use Rattle.ras_index.proofs.Slots.{row_major_total}
use Rattle.ras_index.proofs.slot.from_place.Goals as goal

pub returns-clause-sorted : goal.returns-clause-sorted
returns-clause-sorted g c =
    subst (λ slots. IsStrictlySortedBy row_major (places_of slots))
    (sym (take_all (length c.args.slots.now - c.in-Ok.start) (drop c.in-Ok.start c.args.slots.now) (omega (arith, length-drop c.in-Ok.start c.args.slots.now))))
    (sorted-drop row_major (λ slot. slot.place.items) c.args.slots.now c.in-Ok.start c.requires)

pub returns-clause-others : goal.returns-clause-others
returns-clause-others g c = (
  c.in-Ok.start,
  take_all (length c.args.slots.now - c.in-Ok.start) (drop c.in-Ok.start c.args.slots.now) (omega (arith, length-drop c.in-Ok.start c.args.slots.now)),
  below-start row_major_total (λ slot. slot.place.items) c.args.slots.now c.args.place.now.items c.find.result c.in-Ok.start c.requires c.find.ensures.found c.find.ensures.below c.in-Ok.is,
)
