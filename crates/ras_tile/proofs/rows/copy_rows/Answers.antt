use Rattle.std.proofs.Common.{◌≡◌, ◌+◌, length, option_map, ap, ◌∙◌, arith}
use Rattle.std.specs.List.{refill}
use Rattle.std.proofs.lemmas.List.{take_at}
use Rattle.ras_domain.specs.Region.{IsIn, points_of, place_in_rows}
use Rattle.ras_tile.proofs.RowPlaces.{place-within}
use Rattle.ras_tile.specs.Planes.{plane_number}
use Rattle.ras_tile.specs.Stored.{along}
use Rattle.ras_tile.proofs.Cells.{Reaches-within}
use Rattle.ras_tile.proofs.Copying.{IsCopying, done_of, IsCopying-first, IsCopying-within, IsCopying-more, IsCopying-copied, IsCopying-others, row_fits}
use Rattle.ras_tile.proofs.rows.copy_rows.Goals as goal

pub loop-next-init : goal.loop-next-init
loop-next-init c =
    IsCopying-first c.first_point.ensures

pub row_place-to_place-requires : goal.row_place-to_place-requires
row_place-to_place-requires c =
    c.requires.to_covers c.in-Some.p.items
    (IsCopying-within (rw c.in-Some.is at c.loop-next.invariant))

pub row_place-from_place-requires : goal.row_place-from_place-requires
row_place-from_place-requires c =
    c.requires.from_covers c.in-Some.p.items
    (IsCopying-within (rw c.in-Some.is at c.loop-next.invariant))

pub finish_row-steps-requires-clause-within : goal.finish_row-steps-requires-clause-within
finish_row-steps-requires-clause-within c =
    rw (c.as_mut_slice.ensures.value, c.axes.ensures.axes)
    (IsCopying-within (rw c.in-Some.is at c.loop-next.invariant))

pub overflow_add-steps : goal.overflow_add-steps
overflow_add-steps c =
    let inside : IsIn c.in-Some.p.items c.args.region.now = IsCopying-within (rw c.in-Some.is at c.loop-next.invariant) in
    let end : IsIn (along c.in-Some.p.items c.finish_row-steps.result) c.args.region.now =
    rw (c.finish_row-steps.ensures.moved, c.as_mut_slice.ensures.value, c.axes.ensures.axes) at c.finish_row-steps.ensures.within in
    omega (
      arith,
      c.axes.ensures.region.few_points,
      row_fits c.args.region.now c.args.region.now c.in-Some.p.items c.finish_row-steps.result (λ q here. here)
          c.axes.ensures.region.some_axes inside end,
    )

pub copy_cells-requires-clause-to_within : goal.copy_cells-requires-clause-to_within
copy_cells-requires-clause-to_within c =
    let inside : IsIn c.in-Some.p.items c.args.region.now = IsCopying-within (rw c.in-Some.is at c.loop-next.invariant) in
    let end : IsIn (along c.in-Some.p.items c.finish_row-steps.result) c.args.region.now =
    rw (c.finish_row-steps.ensures.moved, c.as_mut_slice.ensures.value, c.axes.ensures.axes) at c.finish_row-steps.ensures.within in
    omega (
      arith,
      c.requires.to_whole,
      c.loop-next.auto.to,
      c.row_place-to_place.ensures.before,
      row_fits c.args.to_box.now c.args.region.now c.in-Some.p.items c.finish_row-steps.result c.requires.to_covers
          c.axes.ensures.region.some_axes inside end,
    )

pub copy_cells-requires-clause-from_within : goal.copy_cells-requires-clause-from_within
copy_cells-requires-clause-from_within c =
    let inside : IsIn c.in-Some.p.items c.args.region.now = IsCopying-within (rw c.in-Some.is at c.loop-next.invariant) in
    let end : IsIn (along c.in-Some.p.items c.finish_row-steps.result) c.args.region.now =
    rw (c.finish_row-steps.ensures.moved, c.as_mut_slice.ensures.value, c.axes.ensures.axes) at c.finish_row-steps.ensures.within in
    rw (c.row_place-from_place.ensures.before)
    (Reaches-within (length (points_of c.args.from_box.now)) _ c.args.from.now
    (row_fits c.args.from_box.now c.args.region.now c.in-Some.p.items c.finish_row-steps.result c.requires.from_covers c.axes.ensures.region.some_axes inside end)
    c.requires.from_whole)

-- one more row
more : (c : goal.After-next_point-next)
    → IsCopying c.args.to_box.now c.args.from_box.now c.args.region.now c.args.to.now (plane_number c.args.from.now) c.copy_cells.new.to (option_map (λ p. p.items) c.next_point-next.result)
    × (done_of c.args.region.now (option_map (λ p. p.items) c.next_point-next.result) ≡ place_in_rows c.args.region.now c.in-Some.p.items + (c.finish_row-steps.result + 1))
more c =
    let end : IsIn (along c.in-Some.p.items c.finish_row-steps.result) c.args.region.now =
    rw (c.finish_row-steps.ensures.moved, c.as_mut_slice.ensures.value, c.axes.ensures.axes) at c.finish_row-steps.ensures.within in
    let moved : c.finish_row-steps.new.p ≡ along c.in-Some.p.items c.finish_row-steps.result = rw c.as_mut_slice.ensures.value at c.finish_row-steps.ensures.moved in
    let last : refill (length c.in-Some.p.items) c.in-Some.p.items c.finish_row-steps.new.p ≡ along c.in-Some.p.items c.finish_row-steps.result =
    take_at c.finish_row-steps.new.p _ (length c.in-Some.p.items) (omega (arith, ap length c.as_mut_slice.ensures.value)) ∙ moved in
    let after = rw last at c.next_point-next.ensures in
    let copied = rw (c.row_place-to_place.ensures.before, c.row_place-from_place.ensures.before) at c.copy_cells.ensures.copied in
    let others = rw c.row_place-to_place.ensures.before at c.copy_cells.ensures.others in
    IsCopying-more c.copy_cells.new.to c.finish_row-steps.result _
    (rw c.in-Some.is at c.loop-next.invariant) c.axes.ensures.region.some_axes c.requires.to_covers c.requires.from_covers end after (omega arith) copied others

pub loop-next-smaller : goal.loop-next-smaller
loop-next-smaller c =
    let inside : IsIn c.in-Some.p.items c.args.region.now = IsCopying-within (rw c.in-Some.is at c.loop-next.invariant) in
    rw c.in-Some.is (omega (arith, (more c).1, place-within c.args.region.now c.in-Some.p.items inside))

pub loop-next-preserved : goal.loop-next-preserved
loop-next-preserved c = (more c).0

pub returns-clause-copied : goal.returns-clause-copied
returns-clause-copied c =
    IsCopying-copied (rw c.in_default.is at c.loop-next.invariant)

pub returns-clause-others : goal.returns-clause-others
returns-clause-others c =
    IsCopying-others (rw c.in_default.is at c.loop-next.invariant)
