use Rattle.std.proofs.Common.{◌≡◌}
use Rattle.ras_syntax.proofs.tests.long_lists_keep_their_items.Given as goal

abbrev pub invariant-loop-first : goal.invariant-loop-first
invariant-loop-first g l = (l.cells.width ≡ 8) × (l.cells.room ≡ 2000)
