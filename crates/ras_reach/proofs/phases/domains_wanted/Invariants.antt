use Rattle.std.proofs.Common.{◌≡◌, ◌≤◌, length, take}
use Rattle.std.specs.Prelude.{flat_map}
use Rattle.spec_statements.specs.Locks.{lock_list}
use Rattle.spec_statements.specs.Phases.{domain_locks}
use Rattle.ras_reach.specs.Keys.{put_before}
use Rattle.ras_reach.proofs.phases.domains_wanted.Given as goal

abbrev pub invariant-loop-left : goal.invariant-loop-left
invariant-loop-left l = record {
  within : l.left ≤ length l.rows;
  so_far : put_before (flat_map (domain_locks l.sources) (take l.left l.rows)) l.set ≡ lock_list (flat_map (domain_locks l.sources) l.rows);
}

abbrev pub decreases-loop-left : goal.decreases-loop-left
decreases-loop-left l = l.left
