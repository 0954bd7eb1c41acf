use Rattle.std.proofs.Common.{◌≡◌}
use Rattle.spec_workloads.specs.TypeLines.{default_extent, repeated}
use Rattle.ras_workload.proofs.tile_extents.default_extents.Given as goal

abbrev pub invariant-loop : goal.invariant-loop
invariant-loop l = l.extents.items ≡ repeated l.counter (default_extent l.axes)
