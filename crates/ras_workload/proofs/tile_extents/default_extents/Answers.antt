use Rattle.std.proofs.Common.{arith, ap, ◌∙◌, length, sym}
use Rattle.spec_workloads.specs.TypeLines.{default_extent, repeated}
use Rattle.ras_workload.proofs.Extents.{repeated_length, repeated_more}
use Rattle.ras_workload.proofs.tile_extents.default_extents.Goals as goal

pub push-requires : goal.push-requires
push-requires c = omega (arith, ap length c.loop.invariant, repeated_length c.loop.counter (default_extent c.args.axes))

pub loop-preserved : goal.loop-preserved
loop-preserved c = grind (arith, repeated_more c.loop.counter (default_extent c.args.axes))
