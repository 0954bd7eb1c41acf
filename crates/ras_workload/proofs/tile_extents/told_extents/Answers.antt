use Rattle.std.proofs.Common.{arith, refl}
use Rattle.ras_workload.proofs.Extents.{extents_refused, cells_more}
use Rattle.ras_workload.proofs.tile_extents.told_extents.Goals as goal

pub returns-in_default : goal.returns-in_default
returns-in_default c = extents_refused _ c.args.extents.now c.loop-extent.extent-index c.loop-extent.cells _ (omega arith) refl c.loop-extent.invariant.cells c.in_default.ensures
