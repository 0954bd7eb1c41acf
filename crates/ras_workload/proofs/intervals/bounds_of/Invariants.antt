use Rattle.std.proofs.Common.{◌≡◌, take, true}
use Rattle.std.specs.List.{list_all}
use Rattle.spec_workloads.specs.TypeLines.{is_bounded_axis}
use Rattle.ras_workload.proofs.intervals.bounds_of.Given as goal

abbrev pub invariant-loop-axis : goal.invariant-loop-axis
invariant-loop-axis l = record {
  so_far : l.bounds.items ≡ take l.axis-index l.axes;
  each : list_all is_bounded_axis (take l.axis-index l.axes) ≡ true;
}
