use Rattle.std.proofs.Common.{◌+◌, ◌-◌, arith}
use Rattle.std.specs.Prelude.{flat_map}
use Rattle.spec_expressions.specs.Tree.{tree_of}
use Rattle.spec_statements.specs.Locks.{lock_list}
use Rattle.spec_statements.specs.Phases.{read_tiles}
use Rattle.ras_reach.proofs.RowLoops.{row_turn}
use Rattle.ras_reach.proofs.phases.reads_wanted.Goals as goal

pub loop-left-preserved : goal.loop-left-preserved
loop-left-preserved c = record {
  within = omega (arith, c.loop-left.invariant.within);
  so_far =
      row_turn (read_tiles c.args.sources.now (tree_of c.args.e.now)) c.args.rows.now c.loop-left.left (c.loop-left.left - 1 + 1, c.in_ok-row.row.items) c.loop-left.set c.put_read.new.set
      (lock_list (flat_map (read_tiles c.args.sources.now (tree_of c.args.e.now)) c.args.rows.now)) c.loop-left-test.true c.in_ok-row.ensures
      (rw c.as_slice.ensures.value at (c.in_ok-put_read.ensures (c.loop-left.left - 1 + 1))) c.loop-left.invariant.so_far;
}
