use Rattle.std.proofs.Common.{sym, ap, ◌∙◌, arith}
use Rattle.ras_reach.specs.LookedAt.{shape_box_of}
use Rattle.ras_reach.specs.Moved.{boxes_held}
use Rattle.ras_reach.specs.Statics.{all_found, found_or_none}
use Rattle.ras_reach.proofs.LookedAtSeen.{boxes_are}
use Rattle.ras_reach.proofs.StaticsSeen.{found_end}
use Rattle.ras_reach.proofs.boxes.own_boxes.Goals as goal

pub returns : goal.returns
returns c =
    sym (boxes_are c.args.domains.now c.args.parts.now
    ∙ ap found_or_none (found_end (shape_box_of c.args.domains.now) (boxes_held c.loop-part.boxes.items) c.args.parts.now c.loop-part.part-index
    (all_found (shape_box_of c.args.domains.now) c.args.parts.now) (omega (arith, c.loop-part-test.false)) c.loop-part.invariant))
