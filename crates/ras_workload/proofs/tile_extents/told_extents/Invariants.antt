use Rattle.std.proofs.Common.{◌≡◌, ◌≤◌, ◌*◌, take, true, nat_le}
use Rattle.std.specs.List.{fold, list_all}
use Rattle.ras_domain.specs.declared.TheConstants.{MAX_TILE_CELLS}
use Rattle.ras_workload.proofs.tile_extents.told_extents.Given as goal

abbrev pub invariant-loop-extent : goal.invariant-loop-extent
invariant-loop-extent l = record {
  so_far : l.kept.items ≡ take l.extent-index l.extents;
  cells : l.cells ≡ fold ◌*◌ 1 (take l.extent-index l.extents);
  some : 1 ≤ l.cells;
  few : l.cells ≤ MAX_TILE_CELLS;
  each : list_all (λ extent. nat_le 1 extent) (take l.extent-index l.extents) ≡ true;
}
