use Rattle.std.proofs.Common.{◌≡◌, drop}
use Rattle.ras_reach.specs.LookedAt.{shape_box_of}
use Rattle.ras_reach.specs.Moved.{boxes_held}
use Rattle.ras_reach.specs.Statics.{all_found, all_found_after}
use Rattle.ras_reach.proofs.boxes.own_boxes.Given as goal

abbrev pub invariant-loop-part : goal.invariant-loop-part
invariant-loop-part l = all_found_after (boxes_held l.boxes.items) (all_found (shape_box_of l.domains) (drop l.part-index l.parts)) ≡ all_found (shape_box_of l.domains) l.parts
