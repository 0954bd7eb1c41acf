use Rattle.std.proofs.Common.{◌≡◌, replicate}
use Rattle.ras_syntax.specs.declared.expr.FoldOp.TheVariants.{Times}
use Rattle.ras_fold.specs.Kept.{number_kept}
use Rattle.ras_fold.proofs.runs.power.Given as goal

abbrev pub invariant-factors : goal.invariant-factors
invariant-factors l = l.kept ≡ number_kept Times (replicate l.counter l.number)
