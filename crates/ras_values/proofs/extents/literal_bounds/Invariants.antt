use Rattle.std.proofs.Common.{◌≡◌, drop}
use Rattle.ras_shape.specs.Trees.{pairs_seen}
use Rattle.ras_values.specs.Extents.{bounds_between}
use Rattle.ras_values.proofs.Written.{front_with}
use Rattle.ras_values.proofs.extents.literal_bounds.Given as goal

abbrev pub invariant-loop-pair : goal.invariant-loop-pair
invariant-loop-pair l = bounds_between l.domains (pairs_seen l.pairs) ≡ front_with l.bounds.items (bounds_between l.domains (pairs_seen (drop l.pair-index l.pairs)))
