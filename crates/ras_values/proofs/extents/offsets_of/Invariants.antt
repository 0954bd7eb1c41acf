use Rattle.std.proofs.Common.{◌≡◌, drop}
use Rattle.ras_shape.specs.Trees.{trees_seen}
use Rattle.ras_values.specs.Extents.{all_offsets}
use Rattle.ras_values.proofs.Written.{front_with}
use Rattle.ras_values.proofs.extents.offsets_of.Given as goal

abbrev pub invariant-loop-offset : goal.invariant-loop-offset
invariant-loop-offset l = all_offsets l.domains (trees_seen l.offsets) ≡ front_with l.all.items (all_offsets l.domains (trees_seen (drop l.offset-index l.offsets)))
