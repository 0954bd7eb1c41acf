use Rattle.std.proofs.Common.{refl, arith}
use Rattle.ras_domain.proofs.Points.{length-from_IsIn}
use Rattle.ras_tile.proofs.RowPlaces.{moved_to_upper}
use Rattle.ras_tile.proofs.rows.finish_row.Goals as goal

pub slice_copy_out-abs_diff : goal.slice_copy_out-abs_diff
slice_copy_out-abs_diff c =
    omega (arith, c.requires.region.some_axes, length-from_IsIn c.args.p.now c.args.axes.now c.requires.within)

pub bounds-p-last : goal.bounds-p-last
bounds-p-last c =
    omega (arith, c.requires.region.some_axes, length-from_IsIn c.args.p.now c.args.axes.now c.requires.within)

pub returns-clause-moved : goal.returns-clause-moved
returns-clause-moved c =
    (moved_to_upper c.args.axes.now c.args.p.now _ c.abs_diff-steps.result _ _ c.requires.region c.requires.within refl c.abs_diff-steps.ensures).0

pub returns-clause-within : goal.returns-clause-within
returns-clause-within c =
    (moved_to_upper c.args.axes.now c.args.p.now _ c.abs_diff-steps.result _ _ c.requires.region c.requires.within refl c.abs_diff-steps.ensures).1
