use Rattle.std.proofs.Common.{◌≡◌, ◌+◌, ◌*◌, ◌≤◌, drop, min}
use Rattle.ras_syntax.specs.declared.limits.TheConstants.{MAX_ROWS}
use Rattle.ras_rows.specs.RowsKept.{row_count}
use Rattle.ras_rows.proofs.rows.count_of.Given as goal

abbrev pub invariant-loop-of_source : goal.invariant-loop-of_source
invariant-loop-of_source l = record {
  so_far : min (l.count * row_count (drop l.of_source-index l.oids)) (MAX_ROWS + 1) ≡ min (row_count l.oids) (MAX_ROWS + 1);
  few : l.count ≤ MAX_ROWS + 1;
}
