-- The boxes that an expression reads, as the code has them.
use Rattle.std.specs.Prelude.{ℕ, List, map}
use Rattle.spec_expressions.specs.Shape.{Box}
use Rattle.ras_reach.specs.declared.reached.ReachedBox.{ReachedBox}

abbrev pub box_reached : ReachedBox → ℕ × Box
box_reached reached = (reached.place, reached.axes.items)

abbrev pub boxes_reached : List ReachedBox → List (ℕ × Box)
boxes_reached reached = map box_reached reached
