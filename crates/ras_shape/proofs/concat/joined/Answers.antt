use Rattle.std.proofs.Common.{length, ◌-◌, take, drop, arith}
use Rattle.ras_shape.proofs.Places.{parts_split, places_start}
use Rattle.ras_shape.proofs.concat.joined.Goals as goal

pub loop-part-init : goal.loop-part-init
loop-part-init c =
    places_start c.args.span c.args.along c.args.parts.now (take (length c.args.parts.now - 1) (drop 1 c.args.parts.now)) c.first-item.result
    c.axes.result.now c.in_ok-before.before.items c.in_ok-whole.whole.items
    (parts_split c.args.parts.now c.first-item.result (omega (arith, c.in-len1-up.len_at_least)) c.first-item.is)
    c.axes.ensures.axes c.axes.ensures.sound (grind arith) (grind arith)
