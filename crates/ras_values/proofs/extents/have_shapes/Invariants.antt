use Rattle.std.proofs.Common.{◌≡◌, drop}
use Rattle.ras_shape.specs.Trees.{trees_seen}
use Rattle.spec_expressions.specs.Shape.{shapes_of}
use Rattle.ras_values.specs.Extents.{has_outcome}
use Rattle.ras_values.proofs.extents.have_shapes.Given as goal

abbrev pub invariant-loop-part : goal.invariant-loop-part
invariant-loop-part l = has_outcome (shapes_of l.domains (trees_seen l.parts)) ≡ has_outcome (shapes_of l.domains (trees_seen (drop l.part-index l.parts)))
