use Rattle.std.proofs.Common.{◌-◌}
use Rattle.ras_catalog.proofs.Kept.{IsNotBefore}
use Rattle.ras_catalog.proofs.catalog.type_named.Given as goal

abbrev pub invariant-loop-place : goal.invariant-loop-place
invariant-loop-place l = IsNotBefore l.name l.types l.place

abbrev pub decreases-loop-place : goal.decreases-loop-place
decreases-loop-place l = l.count - l.place
