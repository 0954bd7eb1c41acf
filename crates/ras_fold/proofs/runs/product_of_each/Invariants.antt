use Rattle.std.proofs.Common.{◌≡◌, map, take}
use Rattle.ras_syntax.specs.declared.expr.FoldOp.TheVariants.{Times}
use Rattle.ras_fold.specs.Kept.{number_kept}
use Rattle.ras_fold.proofs.runs.product_of_each.Given as goal

abbrev pub invariant-loop-number : goal.invariant-loop-number
invariant-loop-number g l = l.kept ≡ number_kept Times (map g.N.Number.number (take l.number-index l.numbers))
