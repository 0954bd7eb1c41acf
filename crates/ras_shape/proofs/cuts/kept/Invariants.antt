use Rattle.std.proofs.Common.{◌≡◌, drop, map}
use Rattle.ras_shape.specs.Cuts.{cut_found}
use Rattle.spec_expressions.specs.Shape.{kept_axes}
use Rattle.ras_shape.proofs.Loops.{kept_after}
use Rattle.ras_shape.proofs.cuts.kept.Given as goal

abbrev pub invariant-loop-cut : goal.invariant-loop-cut
invariant-loop-cut l = kept_after l.axes.items (drop l.cut-index l.cuts) ≡ kept_axes (map cut_found l.cuts)
