use Rattle.std.proofs.Common.{◌≡◌, Some, sym, subst, ◌∙◌}
use Rattle.std.specs.List.{slice_get}
use Rattle.std.specs.Option.{option_copied}
use Rattle.ras_cells.specs.Stored.{atoms_of}
use Rattle.ras_cells.proofs.Ranges.{length-AreInRange}
use Rattle.ras_domain.specs.Region.{IsIn, points_of}
use Rattle.ras_work.specs.Stores.{tile_held_of}
use Rattle.ras_work.proofs.Filling.{filled-more, point_inside}
use Rattle.ras_work.proofs.tiles.fill.Goals as goal

pub set-requires-clause-within : goal.set-requires-clause-within
set-requires-clause-within c =
    subst (IsIn c.point_at-p.result.items) c.region-in-loop-place.ensures.region
    (point_inside c.region-in-loop-place.result.now c.loop-place.place c.point_at-p.result.items c.point_at-p.ensures)

pub set-requires-clause-width : goal.set-requires-clause-width
set-requires-clause-width c =
    length-AreInRange (atoms_of c.args.of.now.cell) c.in-Some.numbers.items c.in-Some.ensures.range ∙ sym c.requires.width ∙ sym c.loop-place.invariant.width

pub loop-place-preserved : goal.loop-place-preserved
loop-place-preserved c =
    filled-more c.args.of.now c.args.rule c.args.write.now (tile_held_of (option_copied c.args.old)) c.args.tile.now c.loop-place.tile c.set.new.self c.loop-place.place
    c.point_at-p.result.items c.in-Some.numbers.items c.region-in-loop-place.ensures.tile c.loop-place.invariant
    (subst (λ b. slice_get (points_of b) c.loop-place.place ≡ Some c.point_at-p.result.items) c.region-in-loop-place.ensures.region c.point_at-p.ensures)
    c.set.ensures.written c.in-Some.ensures.numbers c.in-Some.ensures.range
