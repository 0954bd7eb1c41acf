use Rattle.std.proofs.Common.{◌≡◌, drop}
use Rattle.spec_expressions.specs.Shape.{values_of}
use Rattle.ras_shape.proofs.Loops.{values_after}
use Rattle.ras_shape.proofs.shift.values.Given as goal

abbrev pub invariant-loop-offset : goal.invariant-loop-offset
invariant-loop-offset l = values_after l.values.items (values_of (drop l.offset-index l.offsets)) ≡ values_of l.offsets
