use Rattle.ras_rows.specs.Arrays.{holdings_in}
use Rattle.ras_rows.proofs.RowAt.{RowSoFar}
use Rattle.ras_rows.proofs.rows.row_at.Given as goal

abbrev pub invariant-loop-i : goal.invariant-loop-i
invariant-loop-i l = RowSoFar (holdings_in l.view) l.sources l.oids l.place l.i l.others l.rest l.row.items
