use Rattle.std.proofs.Common.{◌≡◌, length, take}
use Rattle.ras_rows.specs.Arrays.{holdings_in}
use Rattle.ras_rows.specs.RowsKept.{row_named}
use Rattle.ras_rows.proofs.rows.row_of.Given as goal

abbrev pub invariant-loop-source : goal.invariant-loop-source
invariant-loop-source l = l.row.items ≡ take (length l.yielded) (row_named (holdings_in l.view) l.sources l.oids)
