use Rattle.std.proofs.Common.{◌≡◌, length, take, All}
use Rattle.ras_domain.specs.Region.{HasSmallBounds}
use Rattle.ras_domain.specs.Boxes.{shifted_by}
use Rattle.ras_domain.proofs.boxes.shifted_by.Given as goal

abbrev pub invariant-loop-axis : goal.invariant-loop-axis
invariant-loop-axis l = record {
  so_far : l.bounds.items ≡ take (length l.yielded) (shifted_by l.d l.axes);
  small : All HasSmallBounds l.bounds.items;
}
