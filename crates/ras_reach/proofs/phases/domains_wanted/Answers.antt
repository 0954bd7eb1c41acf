use Rattle.std.proofs.Common.{◌+◌, ◌-◌, arith}
use Rattle.std.specs.Prelude.{flat_map}
use Rattle.spec_statements.specs.Locks.{lock_list}
use Rattle.spec_statements.specs.Phases.{domain_locks}
use Rattle.ras_reach.proofs.RowLoops.{row_turn}
use Rattle.ras_reach.proofs.phases.domains_wanted.Goals as goal

pub loop-left-preserved : goal.loop-left-preserved
loop-left-preserved c = record {
  within = omega (arith, c.loop-left.invariant.within);
  so_far =
      row_turn (domain_locks c.args.sources.now) c.args.rows.now c.loop-left.left (c.loop-left.left - 1 + 1, c.in_ok-row.row.items) c.loop-left.set c.put_domains.new.set
      (lock_list (flat_map (domain_locks c.args.sources.now) c.args.rows.now)) c.loop-left-test.true c.in_ok-row.ensures
      (rw c.as_slice.ensures.value at (c.in_ok-put_domains.ensures (c.loop-left.left - 1 + 1))) c.loop-left.invariant.so_far;
}
