use Rattle.std.proofs.Common.{◌≡◌, ◌++◌, drop}
use Rattle.spec_expressions.specs.Check.{tree_of_axes}
use Rattle.spec_expressions.specs.Reach.{pairs_reach, parts_reach, positions_reach, trees_reach}
use Rattle.ras_shape.specs.Trees.{pairs_seen, trees_seen}
use Rattle.ras_reach.specs.Moved.{boxes_held}
use Rattle.ras_reach.specs.Reached.{boxes_reached}
use Rattle.ras_reach.specs.Variables.{variable_boxes}
use Rattle.ras_reach.proofs.walk.+walk.Given as goal

abbrev pub invariant-reach_each-loop-e : goal.invariant-reach_each-loop-e
invariant-reach_each-loop-e l =
    boxes_reached l.out.items ++ trees_reach l.domains (variable_boxes l.variables) (trees_seen (drop l.e-index l.es)) l.around
    ≡ boxes_reached l.initial.out.items ++ trees_reach l.domains (variable_boxes l.variables) (trees_seen l.es) l.around

abbrev pub invariant-reach_pairs-loop-pair : goal.invariant-reach_pairs-loop-pair
invariant-reach_pairs-loop-pair l =
    boxes_reached l.out.items ++ pairs_reach l.domains (variable_boxes l.variables) (pairs_seen (drop l.pair-index l.pairs)) l.around
    ≡ boxes_reached l.initial.out.items ++ pairs_reach l.domains (variable_boxes l.variables) (pairs_seen l.pairs) l.around

abbrev pub invariant-reach_positions-loop-cut : goal.invariant-reach_positions-loop-cut
invariant-reach_positions-loop-cut l =
    boxes_reached l.out.items ++ positions_reach l.domains (variable_boxes l.variables) (tree_of_axes (drop l.cut-index l.index))
    ≡ boxes_reached l.initial.out.items ++ positions_reach l.domains (variable_boxes l.variables) (tree_of_axes l.index)

abbrev pub invariant-reach_parts-loop-at : goal.invariant-reach_parts-loop-at
invariant-reach_parts-loop-at l =
    boxes_reached l.out.items ++ parts_reach l.domains (variable_boxes l.variables) (trees_seen (drop l.at l.parts)) (boxes_held (drop l.at l.owns)) (boxes_held (drop l.at l.places)) l.around
    ≡ boxes_reached l.initial.out.items ++ parts_reach l.domains (variable_boxes l.variables) (trees_seen l.parts) (boxes_held l.owns) (boxes_held l.places) l.around
