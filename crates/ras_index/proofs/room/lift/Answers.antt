use Rattle.std.proofs.Common.{reverse, arith}
use Rattle.ras_index.proofs.Lists.{split_at}
use Rattle.ras_index.proofs.room.lift.Goals as goal

pub returns-clause-below : goal.returns-clause-below
returns-clause-below g c =
    (split_at c.loop-slots.slots.items (reverse c.loop-slots.above.items) c.args.slots.now.items (reverse c.args.above.now.items) c.args.end c.loop-slots.invariant.order
    (omega (arith, c.loop-slots.slots.ok.0, c.loop-slots.invariant.within, c.len.ensures, c.loop-slots-test.false)) (omega (arith, c.args.slots.now.ok.0, c.requires.within))).0

pub returns-clause-lifted : goal.returns-clause-lifted
returns-clause-lifted g c =
    (split_at c.loop-slots.slots.items (reverse c.loop-slots.above.items) c.args.slots.now.items (reverse c.args.above.now.items) c.args.end c.loop-slots.invariant.order
    (omega (arith, c.loop-slots.slots.ok.0, c.loop-slots.invariant.within, c.len.ensures, c.loop-slots-test.false)) (omega (arith, c.args.slots.now.ok.0, c.requires.within))).1
