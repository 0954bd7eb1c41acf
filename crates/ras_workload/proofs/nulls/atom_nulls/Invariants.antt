use Rattle.std.proofs.Common.{◌≡◌, take, true}
use Rattle.std.specs.List.{list_all}
use Rattle.ras_workload.specs.Kept.{is_null_of}
use Rattle.ras_workload.proofs.nulls.atom_nulls.Given as goal

abbrev pub invariant-loop-ends : goal.invariant-loop-ends
invariant-loop-ends l = record {
  so_far : l.kept.items ≡ take l.ends-index l.nulls;
  each : list_all (is_null_of l.atom) (take l.ends-index l.nulls) ≡ true;
}
