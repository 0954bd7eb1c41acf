use Rattle.std.proofs.Common.{◌≡◌, ◌+◌, length, min, rules, arith}
use Rattle.ras_syntax.specs.declared.limits.TheConstants.{MAX_ROWS}
use Rattle.ras_rows.specs.RowsKept.{row_count}
use Rattle.ras_rows.proofs.Counts.{count_turn}
use Rattle.ras_rows.proofs.rows.count_of.Goals as goal

pub loop-of_source-preserved : goal.loop-of_source-preserved
loop-of_source-preserved c =
    let n_is : c.len.result ≡ length c.of_source-item.result.items = search rules in
    record {
      so_far = count_turn c.args.oids.now c.loop-of_source.of_source-index c.loop-of_source.count c.len.result c.saturating_mul.result c.min-count.result
          (min (row_count c.args.oids.now) (MAX_ROWS + 1))
          c.of_source-item.result c.loop-of_source-test.true c.of_source-item.is n_is c.loop-of_source.invariant.so_far c.saturating_mul.ensures c.min-count.ensures;
      few = omega (arith, c.min-count.ensures);
    }
